use Rattle.std.proofs.Common.{◌≡◌, ◌++◌, map}
use Rattle.msb_glob.specs.declared.pieces.Piece.TheVariants.{Character}
use Rattle.msb_glob.proofs.reading.push_each.Given as goal

abbrev pub invariant-loop-character : goal.invariant-loop-character
invariant-loop-character l = l.pieces ≡ l.initial.pieces ++ map Character l.yielded
