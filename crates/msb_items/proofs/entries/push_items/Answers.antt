use Rattle.std.proofs.lemmas.Result.{err_from_is_err_and}
use Rattle.msb_laws.proofs.Collecting.{fold_step, fold_stop}
use Rattle.msb_items.specs.Items.{items_of}
use Rattle.msb_values.proofs.Causing.{unless}
use Rattle.msb_items.proofs.Turning.{fold-lists}
use Rattle.msb_items.proofs.entries.push_items.Goals as goal

pub loop-entry-init : goal.loop-entry-init
loop-entry-init g c = record {
  is = fold-lists (items_of c.args.paths.now c.args.project.now) c.args.items.now.items
      c.args.entries.now;
}

pub loop-entry-preserved : goal.loop-entry-preserved
loop-entry-preserved g c = fold_step _ _ _ c.entry-item.result _ _ _ c.loop-entry.invariant
    c.loop-entry-test.true c.entry-item.is c.in_ok-push_items_of.ensures

pub returns-in_err-push_items_of : goal.returns-in_err-push_items_of
returns-in_err-push_items_of g c =
    let p = err_from_is_err_and c.from_residual.result c.from_residual.ensures.1 in
    rw (p.1, p.2)
    (unless _
    (fold_stop _ _ _ c.entry-item.result _ _ _ c.loop-entry.invariant c.loop-entry-test.true
    c.entry-item.is) c.in_err-push_items_of.ensures)
