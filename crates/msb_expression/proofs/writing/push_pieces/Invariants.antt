use Rattle.std.proofs.Common.{◌≡◌, ◌++◌, take}
use Rattle.std.specs.List.{flat_map}
use Rattle.msb_expression.specs.Written.{piece_text}
use Rattle.msb_expression.proofs.writing.push_pieces.Given as goal

abbrev pub invariant-loop-piece : goal.invariant-loop-piece
invariant-loop-piece l = l.word ≡ l.initial.word
    ++ flat_map piece_text (take l.piece-index l.pieces)
