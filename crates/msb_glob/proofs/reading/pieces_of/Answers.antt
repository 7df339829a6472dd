use Rattle.std.proofs.Common.{rules}
use Rattle.msb_glob.specs.Parsed.{is_star, around_questions, characters, pieces_of}
use Rattle.msb_glob.specs.declared.pieces.Piece.TheVariants.{AnyCharacters, AnyCharacter}
use Rattle.msb_glob.proofs.Segments.{read_on}
use Rattle.msb_glob.proofs.reading.pieces_of.Goals as goal

pub loop-part-preserved : goal.loop-part-preserved
loop-part-preserved c = record {
  is_text = search rules;
  so_far =
      read_on AnyCharacters (around_questions AnyCharacter characters) is_star
      (pieces_of c.args.segment.now) c.loop-part.pieces _ _ c.loop-part.rest.now
      c.in-Some.part.now c.in-Some.behind.now
      c.in-Some.ensures.parts c.loop-part.invariant.so_far c.in_ok-push_pieces.ensures
      c.in_ok-push.ensures.ok;
}
