use Rattle.std.proofs.Common.{◌≡◌, ◌++◌, take}
use Rattle.std.specs.List.{flat_map}
use Rattle.msb_expression.specs.Written.{step_text}
use Rattle.msb_expression.proofs.writing.push_steps.Given as goal

abbrev pub invariant-loop-step : goal.invariant-loop-step
invariant-loop-step l = l.word ≡ l.initial.word ++ flat_map step_text (take l.step-index l.steps)
