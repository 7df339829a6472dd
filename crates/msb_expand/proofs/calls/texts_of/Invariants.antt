use Rattle.std.proofs.Common.{◌≡◌, map, take}
use Rattle.msb_expand.specs.Calls.{argument_of}
use Rattle.msb_expand.specs.Scenes.{scene_of}
use Rattle.msb_expand.proofs.calls.texts_of.Given as goal

abbrev pub invariant-loop-pieces : goal.invariant-loop-pieces
invariant-loop-pieces l = l.texts ≡ map (argument_of (scene_of l.lens)) (take l.pieces-index l.args)
