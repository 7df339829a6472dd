use Rattle.std.proofs.Common.{◌∙◌, sym, refl, arith}
use Rattle.std.proofs.lemmas.Str.{IsCharBoundary-start, IsCharBoundary-after_ascii}
use Rattle.msb_expression.proofs.Blanks.{
  blank_small,
  blank_there,
  no_blank_there,
  front_goes,
  front_ends,
}
use Rattle.msb_expression.proofs.loose.without_front.Goals as goal

pub loop-start-init : goal.loop-start-init
loop-start-init c =
    record {
      within = omega arith;
      cut = IsCharBoundary-start c.args.text.now c.utf8.text;
      goes =
          refl;
    }

pub loop-start-preserved : goal.loop-start-preserved
loop-start-preserved c =
    let text = c.args.text.now in
    let b = blank_there text c.loop-start.start (sym c.blank_at.ensures ∙ c.loop-start-test.true) in
    let s = blank_small _ b.1 in
    record {
      within = omega (arith, b.0);
      cut = IsCharBoundary-after_ascii text c.loop-start.start c.utf8.text b.0 s;
      goes = sym (front_goes text c.loop-start.start b.0 b.1) ∙ c.loop-start.invariant.goes;
    }

pub loop-start-smaller : goal.loop-start-smaller
loop-start-smaller c =
    let b =
    blank_there c.args.text.now c.loop-start.start
    (sym c.blank_at.ensures ∙ c.loop-start-test.true) in omega (arith, b.0)

pub returns : goal.returns
returns c =
    let text = c.args.text.now in
    c.text_from.ensures
    ∙ sym (front_ends text c.loop-start.start
    (no_blank_there text c.loop-start.start (sym c.blank_at.ensures ∙ c.loop-start-test.false)))
    ∙ c.loop-start.invariant.goes
