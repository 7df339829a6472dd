use Rattle.std.proofs.Common.{◌≡◌, true, false, Some, ap, sym, ◌∙◌}
use Rattle.result_cache.specs.Same.{same_run}
use Rattle.result_cache.specs.Table.{FinishedRun}
use Rattle.result_cache.proofs.LayerSteps.{run_is, run_is_not}
use Rattle.result_cache.proofs.finished.find_recent.Goals as goal

pub returns-then-is : goal.returns-then-is
returns-then-is c =
    let run = c.args.run.now in
    let f = c.finish-item.result in
    let its : same_run run f.run ≡ true =
    sym (c.is.ensures ∙ ap (λ (f : FinishedRun). same_run run f.run) c.finish.view_is)
    ∙ c.if-is.true in
    ap (λ (f : FinishedRun). Some f.made) c.finish.view_is
    ∙ (run_is c.args.recent.now c.loop-finish.finish-index f c.loop-finish-test.true
    c.finish-item.is run its
    ∙ c.loop-finish.invariant)

pub loop-finish-preserved : goal.loop-finish-preserved
loop-finish-preserved c =
    let run = c.args.run.now in
    let f = c.finish-item.result in
    let its : same_run run f.run ≡ false =
    sym (c.is.ensures ∙ ap (λ (f : FinishedRun). same_run run f.run) c.finish.view_is)
    ∙ c.if-is.false in
    run_is_not c.args.recent.now c.loop-finish.finish-index f c.loop-finish-test.true
    c.finish-item.is run its
    ∙ c.loop-finish.invariant
