use Rattle.std.proofs.Common.{◌≡◌, ◌++◌, take}
use Rattle.msb_expand.specs.Scenes.{scene_of}
use Rattle.msb_expand.specs.Functions.{quoted_value}
use Rattle.msb_expand.proofs.references.push_quoted.Given as goal

abbrev pub invariant-loop-piece : goal.invariant-loop-piece
invariant-loop-piece l = l.text ≡ l.initial.text
    ++ quoted_value (scene_of l.lens) (take l.piece-index l.pieces)
