use Rattle.std.proofs.Common.{◌≡◌, ◌+◌, ◌-◌, ◌≤◌, Some, drop, length, ap, ◌∙◌, sym, subst}
use Rattle.std.specs.List.{slice_get}
use Rattle.std.proofs.lemmas.Option.{get_or_from_slice_get, slice_get_within}
use Rattle.msb_files.specs.Layers.{all_of}
use Rattle.msb_files.proofs.LayerSteps.{entry_here, entry_later}
use Rattle.msb_files.proofs.layers.entry_at.Goals as goal

pub returns-then-left-len : goal.returns-then-left-len
returns-then-left-len c =
    let layer = c.layer-item.result in
    let left = c.loop-layer.left in
    let e = c.entry.result.now in
    let there : slice_get layer left ≡ Some e =
    ap (λ l. slice_get l left) (sym c.get-then-left-len.ensures) ∙ c.entry.ensures in
    entry_here c.args.layers.now c.loop-layer.layer-index layer
    (record { within = c.loop-layer-test.true; is = c.layer-item.is }) left e
    (slice_get_within layer left e there) (sym (get_or_from_slice_get layer left e e there))
    ∙ c.loop-layer.invariant

pub loop-layer-preserved : goal.loop-layer-preserved
loop-layer-preserved c =
    let layers = c.args.layers.now in
    let i = c.loop-layer.layer-index in
    let layer = c.layer-item.result in
    let left = c.loop-layer.left in
    let same : c.len-len.result ≡ length layer = c.len-len.ensures ∙ ap length c.get.ensures in
    ap (λ n. slice_get (all_of (drop (i + 1) layers)) (left - n)) same
    ∙ (entry_later layers i layer (record {
      within = c.loop-layer-test.true;
      is =
          c.layer-item.is;
    }) left
    (subst (λ n. n ≤ left) same c.if-left-len.false)
    ∙ c.loop-layer.invariant)
