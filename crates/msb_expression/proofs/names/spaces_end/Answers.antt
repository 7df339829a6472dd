use Rattle.std.proofs.Common.{◌∙◌, sym, arith}
use Rattle.msb_expression.proofs.Places.{has_byte, run-space_at, space_goes}
use Rattle.msb_expression.proofs.names.spaces_end.Goals as goal

pub loop-end-preserved : goal.loop-end-preserved
loop-end-preserved c =
    let e = sym c.in-Space.ensures in
    let b = has_byte c.args.text.now c.loop-end.end (λ k. let z = sym e ∙ k in cc) in
    record {
      after = omega arith;
      within = omega (arith, b.within);
      spaces =
          space_goes c.args.text.now c.args.at c.loop-end.end c.loop-end.invariant.after
          c.loop-end.invariant.spaces e;
      over = λ mode s. c.loop-end.invariant.over mode s
          ∙ run-space_at c.args.text.now c.loop-end.end mode e s;
    }
