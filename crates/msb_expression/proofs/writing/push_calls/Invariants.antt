use Rattle.std.proofs.Common.{◌≡◌, ◌++◌, take}
use Rattle.std.specs.List.{flat_map}
use Rattle.msb_expression.specs.Written.{dotted_text}
use Rattle.msb_expression.proofs.writing.push_calls.Given as goal

abbrev pub invariant-loop-call : goal.invariant-loop-call
invariant-loop-call l = l.word ≡ l.initial.word ++ flat_map dotted_text (take l.call-index l.calls)
