use Rattle.std.proofs.lemmas.Result.{err_from_is_err_and}
use Rattle.msb_values.proofs.Causing.{unless}
use Rattle.msb_items.proofs.Stopping.{unmapped}
use Rattle.msb_items.proofs.updates.with_metadata.Goals as goal

pub returns-in_err-push_all : goal.returns-in_err-push_all
returns-in_err-push_all g c =
    let p = err_from_is_err_and c.from_residual.result c.from_residual.ensures.1 in
    rw (p.1, p.2) (unless _ (unmapped _ _ _) c.in_err-push_all.ensures)
