use Rattle.std.proofs.Common.{◌≡◌, ◌++◌, ◌==◌, drop}
use Rattle.msb_expression.specs.Grammar.{cut_pieces, trimmed_pieces}
use Rattle.msb_expression.proofs.loose.trim_pieces.Given as goal

abbrev pub invariant-loop-at : goal.invariant-loop-at
invariant-loop-at l =
    l.kept ++ cut_pieces (l.at == 0) (drop l.at l.pieces) ≡ trimmed_pieces l.pieces
