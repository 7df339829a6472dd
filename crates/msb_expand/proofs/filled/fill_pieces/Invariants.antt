use Rattle.std.proofs.Common.{◌≡◌, map, take}
use Rattle.msb_expand.specs.Scenes.{scene_of}
use Rattle.msb_expand.specs.Tokens.{filled_piece}
use Rattle.msb_expand.proofs.filled.fill_pieces.Given as goal

abbrev pub invariant-loop-piece : goal.invariant-loop-piece
invariant-loop-piece l = l.filled ≡ map (filled_piece (scene_of l.lens))
    (take l.piece-index l.pieces)
