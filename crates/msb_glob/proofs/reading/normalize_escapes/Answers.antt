use Rattle.std.proofs.Common.{rules}
use Rattle.msb_glob.specs.Parsed.{is_star, around_questions, literal, cleared}
use Rattle.msb_glob.proofs.Segments.{read_on, read_last}
use Rattle.msb_glob.proofs.reading.normalize_escapes.Goals as goal

pub loop-part-preserved : goal.loop-part-preserved
loop-part-preserved c = record {
  is_text = search rules;
  so_far =
      read_on 42 (around_questions 63 literal) is_star (cleared c.args.text.now) c.loop-part.whole _
      _ c.loop-part.rest.now c.in-Some.part.now c.in-Some.behind.now
      c.in-Some.ensures.parts c.loop-part.invariant.so_far c.in_ok-push_around_questions.ensures
      c.in_ok-push_str.ensures.ok;
}

pub returns : goal.returns
returns c =
    read_last 42 (around_questions 63 literal) is_star (cleared c.args.text.now) c.loop-part.whole _
    c.loop-part.rest.now
    c.in_default.ensures.parts c.loop-part.invariant.so_far c.in_ok-push_around_questions-2.ensures
