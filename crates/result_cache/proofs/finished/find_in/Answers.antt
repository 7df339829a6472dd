use Rattle.std.proofs.Common.{ap, ◌∙◌}
use Rattle.result_cache.specs.Table.{found}
use Rattle.result_cache.proofs.LayerSteps.{made_here, made_later}
use Rattle.result_cache.proofs.finished.find_in.Goals as goal

pub returns-in-Some : goal.returns-in-Some
returns-in-Some c =
    let run = c.args.run.now in
    made_here c.args.layers.now c.loop-layer.layer-index c.layer-item.result
    (record { within = c.loop-layer-test.true; is = c.layer-item.is }) run c.in-Some.made.now
    (c.in-Some.ensures ∙ ap (λ l. found l run) c.get.ensures) ∙ c.loop-layer.invariant

pub loop-layer-preserved : goal.loop-layer-preserved
loop-layer-preserved c =
    let run = c.args.run.now in
    made_later c.args.layers.now c.loop-layer.layer-index c.layer-item.result
    (record { within = c.loop-layer-test.true; is = c.layer-item.is }) run
    (c.in_default.ensures ∙ ap (λ l. found l run) c.get.ensures) ∙ c.loop-layer.invariant
