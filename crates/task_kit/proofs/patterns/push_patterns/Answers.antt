use Rattle.std.proofs.lemmas.Result.{err_from_is_err_and}
use Rattle.msb_laws.proofs.Collecting.{fold_step, fold_stop}
use Rattle.task_trait.proofs.Stopping.{unless}
use Rattle.task_kit.specs.Included.{patterns_of_entry}
use Rattle.task_kit.proofs.Joining.{fold_all_of}
use Rattle.task_kit.proofs.patterns.push_patterns.Goals as goal

pub loop-entry-init : goal.loop-entry-init
loop-entry-init c = record
    { is = fold_all_of (patterns_of_entry c.args.dir.now) c.args.patterns.now c.args.entries.now }

pub loop-entry-preserved : goal.loop-entry-preserved
loop-entry-preserved c = fold_step _ _ _ c.entry-item.result _ _ _ c.loop-entry.invariant
    c.loop-entry-test.true c.entry-item.is c.in_ok-push_pattern.ensures

pub returns-in_err-push_pattern : goal.returns-in_err-push_pattern
returns-in_err-push_pattern c =
    let p = err_from_is_err_and c.from_residual.result c.from_residual.ensures.1 in
    rw (p.1, p.2)
    (unless _
    (fold_stop _ _ _ c.entry-item.result _ _ _ c.loop-entry.invariant c.loop-entry-test.true
    c.entry-item.is) c.in_err-push_pattern.ensures)
