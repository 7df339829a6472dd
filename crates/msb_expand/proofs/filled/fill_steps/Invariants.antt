use Rattle.std.proofs.Common.{◌≡◌, map, take}
use Rattle.msb_expand.specs.Scenes.{scene_of}
use Rattle.msb_expand.specs.Tokens.{filled_step}
use Rattle.msb_expand.proofs.filled.fill_steps.Given as goal

abbrev pub invariant-loop-step : goal.invariant-loop-step
invariant-loop-step l = l.filled ≡ map (filled_step (scene_of l.lens)) (take l.step-index l.steps)
