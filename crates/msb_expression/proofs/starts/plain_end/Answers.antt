use Rattle.std.proofs.Common.{◌≡◌, drop, sym, ◌∙◌, arith}
use Rattle.msb_expression.specs.declared.starts.Start.TheVariants.{Plain}
use Rattle.msb_expression.specs.Machine.{start_of}
use Rattle.msb_expression.proofs.PlainPlaces.{
  plain_within,
  plain_more,
  plain_grows,
  run-plain,
  start_cuts,
}
use Rattle.msb_expression.proofs.starts.plain_end.Goals as goal

pub loop-end-preserved : goal.loop-end-preserved
loop-end-preserved c =
    let i = c.loop-end.invariant in
    let w = plain_within c.args.inside c.args.text.now c.loop-end.end (sym c.in-Plain.ensures)
    i.within in
    record {
      after = omega arith;
      within = omega (arith, w);
      plain = plain_more c.args.inside c.args.text.now c.args.at c.loop-end.end i.plain
          (sym c.in-Plain.ensures);
    }

pub returns : goal.returns
returns c =
    let i = c.loop-end.invariant in
    let n = λ (e : start_of c.args.inside (drop c.loop-end.end c.args.text.now) ≡ Plain).
    c.in_default.not-Plain (c.start_at.ensures ∙ e) in
    record {
      after = plain_grows c.args.inside c.args.text.now c.args.at c.loop-end.end c.requires.plain n
          i.after;
      within = i.within;
      cut = start_cuts c.args.inside c.args.text.now c.loop-end.end n i.within;
      over = λ host e. run-plain c.args.inside c.args.text.now c.args.at c.loop-end.end host e
          i.after i.within i.plain n;
    }
