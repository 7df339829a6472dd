use Rattle.std.proofs.lemmas.Result.{err_from_is_err_and}
use Rattle.msb_laws.proofs.Collecting.{ok_step, ok_stop}
use Rattle.task_trait.proofs.Stopping.{unless}
use Rattle.task_kit.proofs.copies.each_below.Goals as goal

pub loop-source-preserved : goal.loop-source-preserved
loop-source-preserved c =
    rw c.in_ok-push.ensures.ok
    (ok_step _ _ _ c.source-item.result c.in_ok-below.below _ _ c.loop-source.invariant
    c.loop-source-test.true c.source-item.is c.in_ok-below.ensures)

pub returns-in_err-below : goal.returns-in_err-below
returns-in_err-below c =
    let p = err_from_is_err_and c.from_residual.result c.from_residual.ensures.1 in
    rw (p.1, p.2)
    (unless _
    (ok_stop _ _ _ c.source-item.result _ _ _ c.loop-source.invariant c.loop-source-test.true
    c.source-item.is) c.in_err-below.ensures)
