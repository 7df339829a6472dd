use Rattle.std.proofs.lemmas.Result.{err_from_is_err_and}
use Rattle.msb_laws.proofs.Collecting.{ok_step, ok_stop}
use Rattle.task_trait.proofs.Stopping.{unless}
use Rattle.task_kit.proofs.copies.named_destinations.Goals as goal

pub loop-item-preserved : goal.loop-item-preserved
loop-item-preserved c =
    rw c.in_ok-push.ensures.ok
    (ok_step _ _ _ c.item-item.result c.in_ok-named.named _ _ c.loop-item.invariant
    c.loop-item-test.true c.item-item.is c.in_ok-named.ensures)

pub returns-in_err-named : goal.returns-in_err-named
returns-in_err-named c =
    let p = err_from_is_err_and c.from_residual.result c.from_residual.ensures.1 in
    rw (p.1, p.2)
    (unless _
    (ok_stop _ _ _ c.item-item.result _ _ _ c.loop-item.invariant c.loop-item-test.true
    c.item-item.is) c.in_err-named.ensures)
