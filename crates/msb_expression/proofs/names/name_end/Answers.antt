use Rattle.std.proofs.Common.{◌∙◌, sym, ap, arith}
use Rattle.msb_expression.specs.Machine.{is_name_sort}
use Rattle.msb_expression.proofs.Places.{name_goes}
use Rattle.msb_expression.proofs.names.name_end.Goals as goal

pub loop-end-preserved : goal.loop-end-preserved
loop-end-preserved c =
    let e = ap is_name_sort (sym c.sort_at.ensures) ∙ sym c.is_in_name.ensures
    ∙ c.loop-end-test.true in
    let g = name_goes c.args.text.now c.args.at c.loop-end.end c.loop-end.invariant.after
    c.loop-end.invariant.bytes e in
    record { after = omega arith; within = omega (arith, g.within); bytes = g.bytes }
