use Rattle.std.proofs.lemmas.Result.{err_from_is_err_and}
use Rattle.msb_laws.proofs.Collecting.{ok_stop}
use Rattle.task_trait.proofs.Stopping.{unless}
use Rattle.task_kit.proofs.foreign.all_files.Goals as goal

pub returns-in_err-file : goal.returns-in_err-file
returns-in_err-file c =
    let p = err_from_is_err_and c.from_residual.result c.from_residual.ensures.1 in
    rw (p.1, p.2)
    (unless _
    (ok_stop _ _ _ c.item-item.result _ _ _ c.loop-item.invariant c.loop-item-test.true
    c.item-item.is) c.in_err-file.ensures)
