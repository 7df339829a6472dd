use Rattle.std.proofs.lemmas.Result.{err_from_is_err_and}
use Rattle.msb_values.proofs.Causing.{unless}
use Rattle.msb_items.proofs.Turning.{taken_step, taken_stop}
use Rattle.msb_items.proofs.updates.push_all.Goals as goal

pub loop-item-preserved : goal.loop-item-preserved
loop-item-preserved g c = taken_step _ _ _ _ _ _ _ c.loop-item.invariant c.in-Some.ensures.steps.0
    c.in_ok-push_one.ensures

pub returns-in_err-push_one : goal.returns-in_err-push_one
returns-in_err-push_one g c =
    let p = err_from_is_err_and c.from_residual.result c.from_residual.ensures.1 in
    rw (p.1, p.2)
    (unless _ (taken_stop _ _ _ _ _ _ _ c.loop-item.invariant c.in-Some.ensures.steps.0)
    c.in_err-push_one.ensures)
