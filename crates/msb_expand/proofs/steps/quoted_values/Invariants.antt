use Rattle.std.proofs.Common.{◌≡◌, map, take}
use Rattle.msb_expand.specs.Scenes.{scene_of}
use Rattle.msb_expand.specs.Functions.{quoted_value}
use Rattle.msb_expand.proofs.steps.quoted_values.Given as goal

abbrev pub invariant-loop-arg : goal.invariant-loop-arg
invariant-loop-arg l = l.texts.items ≡ map (quoted_value (scene_of l.lens))
    (take l.arg-index l.args)
