use Rattle.std.proofs.Common.{◌-◌, ◌+◌, ◌++◌, ap, ◌∙◌, drop, length, slice_get, arith}
use Rattle.result_cache.specs.Kept.{all_of}
use Rattle.result_cache.proofs.LayerSteps.{run_here, run_later}
use Rattle.result_cache.proofs.finished.run_at.Goals as goal

pub returns-then-left-len : goal.returns-then-left-len
returns-then-left-len c =
    let layers = c.args.layers.now in
    let left = c.loop-layer.left in
    let long = c.len-len.ensures ∙ ap length c.get.ensures in
    c.at.ensures
    ∙ (ap (λ l. slice_get l left) c.get-then-left-len.ensures
    ∙ (run_here layers c.loop-layer.layer-index c.layer-item.result
    (record { within = c.loop-layer-test.true; is = c.layer-item.is }) c.args.recent.now left
    (omega (arith, long, c.if-left-len.true)) ∙ c.loop-layer.invariant))

pub loop-layer-preserved : goal.loop-layer-preserved
loop-layer-preserved c =
    let layers = c.args.layers.now in
    let recent = c.args.recent.now in
    let left = c.loop-layer.left in
    let i = c.loop-layer.layer-index in
    let long = c.len-len.ensures ∙ ap length c.get.ensures in
    ap (λ n. slice_get (all_of (drop (i + 1) layers) ++ recent) (left - n)) long
    ∙ (run_later layers i c.layer-item.result
    (record { within = c.loop-layer-test.true; is = c.layer-item.is }) recent left
    (omega (arith, long, c.if-left-len.false)) ∙ c.loop-layer.invariant)
