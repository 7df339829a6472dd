use Rattle.std.proofs.Common.{◌≡◌, ◌++◌, rules}
use Rattle.std.proofs.lemmas.Result.{IfOk-weaker}
use Rattle.msb_glob.specs.Parsed.{is_question, around_questions, literal}
use Rattle.msb_glob.proofs.Segments.{read_on, read_last}
use Rattle.msb_glob.proofs.reading.push_around_questions.Goals as goal

pub loop-part-preserved : goal.loop-part-preserved
loop-part-preserved c = record {
  is_text = search rules;
  so_far =
      read_on 63 literal is_question
      (c.args.whole.now ++ around_questions 63 literal c.args.text.now) c.loop-part.whole _ _
      c.loop-part.rest.now c.in-Some.part.now c.in-Some.behind.now
      c.in-Some.ensures.parts c.loop-part.invariant.so_far c.in_ok-push_literal.ensures
      c.in_ok-push_str.ensures.ok;
}

pub returns : goal.returns
returns c =
    IfOk-weaker c.push_literal-2.result (λ _. c.push_literal-2.new.whole
    ≡ c.loop-part.whole ++ literal c.loop-part.rest.now) _
    (λ _ pushed. read_last 63 literal is_question
    (c.args.whole.now ++ around_questions 63 literal c.args.text.now) c.loop-part.whole _
    c.loop-part.rest.now
    c.in_default.ensures.parts c.loop-part.invariant.so_far pushed)
    c.push_literal-2.ensures
