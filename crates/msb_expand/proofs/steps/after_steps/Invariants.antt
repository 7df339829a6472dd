use Rattle.std.proofs.Common.{◌≡◌, map, drop}
use Rattle.msb_expand.specs.Scenes.{scene_of}
use Rattle.msb_expand.specs.Functions.{after_steps}
use Rattle.msb_expand.specs.Seen.{seen_item}
use Rattle.msb_expand.proofs.steps.after_steps.Given as goal

abbrev pub invariant-loop-step : goal.invariant-loop-step
invariant-loop-step l =
    after_steps (scene_of l.lens) (drop l.step-index l.steps) (map seen_item l.items.items)
    ≡ after_steps (scene_of l.lens) l.steps (map seen_item l.fn.items.items)
