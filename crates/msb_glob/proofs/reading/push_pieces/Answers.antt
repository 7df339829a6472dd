use Rattle.std.proofs.Common.{◌++◌, rules}
use Rattle.msb_glob.specs.Parsed.{is_question, around_questions, characters}
use Rattle.msb_glob.specs.declared.pieces.Piece.TheVariants.{AnyCharacter}
use Rattle.msb_glob.proofs.Segments.{read_on}
use Rattle.msb_glob.proofs.reading.push_pieces.Goals as goal

pub loop-part-preserved : goal.loop-part-preserved
loop-part-preserved c = record {
  is_text = search rules;
  so_far =
      read_on AnyCharacter characters is_question
      (c.args.pieces.now ++ around_questions AnyCharacter characters c.args.text.now)
      c.loop-part.pieces _ _ c.loop-part.rest.now c.in-Some.part.now c.in-Some.behind.now
      c.in-Some.ensures.parts c.loop-part.invariant.so_far c.in_ok-push_characters.ensures
      c.in_ok-push.ensures.ok;
}
