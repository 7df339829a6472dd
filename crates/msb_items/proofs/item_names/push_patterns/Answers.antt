use Rattle.std.proofs.lemmas.Result.{err_from_is_err_and}
use Rattle.msb_laws.proofs.Collecting.{fold_step, fold_stop}
use Rattle.msb_items.specs.Patterns.{is_pattern_entry, pattern_of}
use Rattle.msb_values.proofs.Causing.{unless}
use Rattle.msb_items.proofs.Turning.{fold-filtered}
use Rattle.msb_items.proofs.item_names.push_patterns.Goals as goal

pub loop-entry-init : goal.loop-entry-init
loop-entry-init c = record {
  is = fold-filtered (pattern_of c.args.project.now) is_pattern_entry c.args.patterns.now
      c.args.entries.now;
}

pub loop-entry-preserved : goal.loop-entry-preserved
loop-entry-preserved c = fold_step _ _ _ c.entry-item.result _ _ _ c.loop-entry.invariant
    c.loop-entry-test.true c.entry-item.is c.in_ok-push_pattern.ensures

pub returns-in_err-push_pattern : goal.returns-in_err-push_pattern
returns-in_err-push_pattern c =
    let p = err_from_is_err_and c.from_residual.result c.from_residual.ensures.1 in
    rw (p.1, p.2)
    (unless _
    (fold_stop _ _ _ c.entry-item.result _ _ _ c.loop-entry.invariant c.loop-entry-test.true
    c.entry-item.is) c.in_err-push_pattern.ensures)
