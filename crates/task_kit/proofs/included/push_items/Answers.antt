use Rattle.std.proofs.lemmas.Result.{err_from_is_err_and}
use Rattle.msb_laws.proofs.Collecting.{fold_step, fold_stop}
use Rattle.task_trait.proofs.Stopping.{unless}
use Rattle.task_kit.specs.Included.{items_of_entry}
use Rattle.task_kit.proofs.Joining.{fold_all_of}
use Rattle.task_kit.proofs.included.push_items.Goals as goal

pub loop-entry-init : goal.loop-entry-init
loop-entry-init c = record {
  is = fold_all_of (items_of_entry c.args.dir.now c.args.paths.now) c.args.items.now
      c.args.entries.now;
}

pub loop-entry-preserved : goal.loop-entry-preserved
loop-entry-preserved c = fold_step _ _ _ c.entry-item.result _ _ _ c.loop-entry.invariant
    c.loop-entry-test.true c.entry-item.is c.in_ok-push_items_of.ensures

pub returns-in_err-push_items_of : goal.returns-in_err-push_items_of
returns-in_err-push_items_of c =
    let p = err_from_is_err_and c.from_residual.result c.from_residual.ensures.1 in
    rw (p.1, p.2)
    (unless _
    (fold_stop _ _ _ c.entry-item.result _ _ _ c.loop-entry.invariant c.loop-entry-test.true
    c.entry-item.is) c.in_err-push_items_of.ensures)
