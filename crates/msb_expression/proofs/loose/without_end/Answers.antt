use Rattle.std.proofs.Common.{◌≡◌, ◌∙◌, ◌+◌, ◌-◌, sym, ap, arith, length, take}
use Rattle.std.proofs.lemmas.List.{take_all}
use Rattle.std.proofs.lemmas.Str.{IsCharBoundary-end, IsCharBoundary-before_ascii}
use Rattle.msb_expression.specs.Grammar.{without_end}
use Rattle.msb_expression.proofs.Blanks.{
  blank_small,
  blank_there,
  no_blank_there,
  end_goes,
  end_ends,
}
use Rattle.msb_expression.proofs.loose.without_end.Goals as goal

pub loop-end-init : goal.loop-end-init
loop-end-init c =
    let text = c.args.text.now in
    record {
      within = omega arith;
      cut = IsCharBoundary-end text;
      goes = ap without_end (take_all (length text) text (omega arith));
    }

pub overflow_sub-end : goal.overflow_sub-end
overflow_sub-end c = let s = c.blank_before.ensures.some c.loop-end-test.true in omega (arith, s.0)

pub loop-end-preserved : goal.loop-end-preserved
loop-end-preserved c =
    let text = c.args.text.now in
    let e = c.loop-end.end in
    let s = c.blank_before.ensures.some c.loop-end-test.true in
    let b = blank_there text (e - 1) s.1 in
    let back : e - 1 + 1 ≡ e = omega (arith, s.0) in
    record {
      within = omega (arith, b.0);
      cut = IsCharBoundary-before_ascii text (e - 1) b.0 (blank_small _ b.1);
      goes =
          sym (end_goes text (e - 1) b.0 b.1) ∙ ap (λ k. without_end (take k text)) back
          ∙ c.loop-end.invariant.goes;
    }

pub loop-end-smaller : goal.loop-end-smaller
loop-end-smaller c = let s = c.blank_before.ensures.some c.loop-end-test.true in omega (arith, s.0)

pub returns : goal.returns
returns c =
    let text = c.args.text.now in
    let e = c.loop-end.end in
    let i = c.loop-end.invariant in
    c.text_to.ensures
    ∙ sym (end_ends text e i.within
    (λ p. no_blank_there text (e - 1) (c.blank_before.ensures.none c.loop-end-test.false p)
    (omega (arith, p, i.within))))
    ∙ i.goes
