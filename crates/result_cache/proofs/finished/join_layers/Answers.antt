use Rattle.std.proofs.Common.{◌++◌, sym, ◌∙◌, subst}
use Rattle.result_cache.specs.Kept.{runs_of}
use Rattle.result_cache.specs.Same.{AreDistinct}
use Rattle.result_cache.proofs.LayerSteps.{joined_next, distinct_next}
use Rattle.result_cache.proofs.finished.join_layers.Goals as goal

pub push_all-requires : goal.push_all-requires
push_all-requires c =
    subst (λ l. AreDistinct (runs_of l))
    (sym (λ j. c.loop-layer.invariant j ++ c.get.ensures j))
    (distinct_next c.args.layers.now c.loop-layer.layer-index c.layer-item.result
    (record { within = c.loop-layer-test.true; is = c.layer-item.is }) c.requires)

pub loop-layer-preserved : goal.loop-layer-preserved
loop-layer-preserved c =
    c.in_ok-push_all.ensures
    ∙ ((λ j. c.loop-layer.invariant j ++ c.get.ensures j)
    ∙ joined_next c.args.layers.now c.loop-layer.layer-index c.layer-item.result
    (record { within = c.loop-layer-test.true; is = c.layer-item.is }))
