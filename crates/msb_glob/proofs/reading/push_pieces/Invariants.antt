use Rattle.std.proofs.Common.{◌≡◌, ◌++◌, length}
use Rattle.msb_glob.specs.Parsed.{around_questions, characters}
use Rattle.msb_glob.specs.declared.pieces.Piece.TheVariants.{AnyCharacter}
use denote.Shadow.{shadow}
use denote.Text.{Utf8}
use Rattle.msb_glob.proofs.reading.push_pieces.Given as goal

abbrev pub invariant-loop-part : goal.invariant-loop-part
invariant-loop-part l = record {
  is_text : shadow (Utf8 l.rest);
  so_far : l.pieces
      ++ around_questions AnyCharacter characters l.rest
      ≡ l.fn.pieces ++ around_questions AnyCharacter characters l.fn.text;
}

abbrev pub decreases-loop-part : goal.decreases-loop-part
decreases-loop-part l = length l.rest
