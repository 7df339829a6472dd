use Rattle.std.proofs.lemmas.Result.{err_from_is_err_and}
use Rattle.msb_laws.proofs.Collecting.{ok_stop}
use Rattle.task_trait.proofs.Stopping.{unless}
use Rattle.task_kit.proofs.removed.all_paths.Goals as goal

pub returns-in_err-path : goal.returns-in_err-path
returns-in_err-path c =
    let p = err_from_is_err_and c.from_residual.result c.from_residual.ensures.1 in
    let stops = ok_stop _ _ _ c.item-item.result _ _ _ c.loop-item.invariant c.loop-item-test.true
    c.item-item.is in
    rw (p.1, p.2) (unless _ stops c.in_err-path.ensures)
