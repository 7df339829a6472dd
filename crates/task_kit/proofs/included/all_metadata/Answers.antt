use Rattle.std.proofs.lemmas.Result.{err_from_is_err_and}
use Rattle.msb_laws.proofs.Collecting.{ok_stop}
use Rattle.task_trait.proofs.Stopping.{unless}
use Rattle.task_kit.proofs.included.all_metadata.Goals as goal

pub returns-in_err-pair : goal.returns-in_err-pair
returns-in_err-pair c =
    let p = err_from_is_err_and c.from_residual.result c.from_residual.ensures.1 in
    rw (p.1, p.2)
    (unless _
    (ok_stop _ _ _ c.entry-item.result _ _ _ c.loop-entry.invariant c.loop-entry-test.true
    c.entry-item.is) c.in_err-pair.ensures)
