use Rattle.std.proofs.Common.{◌≡◌, map, take}
use Rattle.msb_expand.specs.Scenes.{scene_of}
use Rattle.msb_expand.specs.Tokens.{filled}
use Rattle.msb_expand.proofs.filled.fill_args.Given as goal

abbrev pub invariant-loop-arg : goal.invariant-loop-arg
invariant-loop-arg l = l.filled ≡ map (filled (scene_of l.lens)) (take l.arg-index l.args)
