use Rattle.std.proofs.Common.{sym, ap, ◌∙◌, [], arith}
use Rattle.std.proofs.lemmas.Str.{IsCharBoundary-start}
use Rattle.msb_expression.specs.Machine.{run, in_text, whole, unmarked}
use Rattle.msb_expression.proofs.StepPlaces.{run_end}
use Rattle.msb_expression.proofs.parsing.read.Goals as goal

pub loop-next-init : goal.loop-next-init
loop-next-init c = record {
  within = omega arith;
  cut = IsCharBoundary-start c.args.text.now c.utf8.text;
  goes = ap (λ parts. run c.args.text.now (in_text (whole parts) [] unmarked))
      (sym c.new-parts.ensures);
}

pub returns : goal.returns
returns c = c.loop-next.invariant.goes ∙ run_end c.loop-next.parts c.args.text.now c.loop-next.next
    c.loop-next-test.false
