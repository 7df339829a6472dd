use Rattle.std.proofs.Common.{ap, ◌∙◌}
use Rattle.msb_files.specs.Indices.{last_act}
use Rattle.msb_files.proofs.LayerSteps.{act_here, act_later}
use Rattle.msb_files.proofs.layers.last_act.Goals as goal

pub returns-in-Some : goal.returns-in-Some
returns-in-Some c =
    let path = c.args.path.now in
    act_here c.args.layers.now c.loop-layer.layer-index c.layer-item.result
    (record { within = c.loop-layer-test.true; is = c.layer-item.is }) path c.in-Some.act.now
    (c.in-Some.ensures ∙ ap (λ l. last_act l path) c.get.ensures) ∙ c.loop-layer.invariant

pub loop-layer-preserved : goal.loop-layer-preserved
loop-layer-preserved c =
    let path = c.args.path.now in
    act_later c.args.layers.now c.loop-layer.layer-index c.layer-item.result
    (record { within = c.loop-layer-test.true; is = c.layer-item.is }) path
    (c.in_default.ensures ∙ ap (λ l. last_act l path) c.get.ensures) ∙ c.loop-layer.invariant
