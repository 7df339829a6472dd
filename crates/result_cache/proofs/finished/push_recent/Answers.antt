use Rattle.std.proofs.Common.{ap, ◌∙◌}
use Rattle.result_cache.specs.Table.{FinishedRun, found}
use Rattle.result_cache.proofs.LayerSteps.{next_absent}
use Rattle.result_cache.proofs.finished.push_recent.Goals as goal

pub push-requires : goal.push-requires
push-requires c =
    ap (λ (f : FinishedRun). found c.loop-finish.layer f.run) c.finish.view_is
    ∙ (ap (λ l. found l c.finish-item.result.run) c.loop-finish.invariant
    ∙ next_absent c.args.layer.now c.args.recent.now c.loop-finish.finish-index c.finish-item.result
    c.loop-finish-test.true c.finish-item.is c.requires)
