use Rattle.std.proofs.Common.{◌≡◌, ◌+◌, ◌-◌, drop, length, sym, ap, ◌∙◌, arith}
use Rattle.std.proofs.lemmas.List.{drop_all}
use Rattle.result_cache.specs.Journal.{has}
use Rattle.msb_files.specs.Layers.{all_of}
use Rattle.msb_files.proofs.LayerSteps.{has_dropped, has_here, has_later}
use Rattle.msb_files.proofs.layers.has_mark.Goals as goal

pub loop-at-init : goal.loop-at-init
loop-at-init c =
    let layers = c.args.layers.now in
    ap (λ ls. has c.args.mark.now (all_of ls)) (drop_all (length layers - 0) layers (omega arith))

pub returns-then-has : goal.returns-then-has
returns-then-has c =
    let layers = c.args.layers.now in
    let m = c.args.mark.now in
    let i = length layers - 1 - c.loop-at.at in
    let there = has_here layers i c.index-layers-place.result
    (record { within = omega arith; is = c.index-layers-place.is }) m c.has.result
    (c.has.ensures ∙ ap (has m) c.get.ensures) c.if-has.true in
    sym (has_dropped layers i m (sym there))

pub loop-at-preserved : goal.loop-at-preserved
loop-at-preserved c =
    let layers = c.args.layers.now in
    let m = c.args.mark.now in
    let at = c.loop-at.at in
    let i = length layers - 1 - at in
    let here : length layers - (at + 1) ≡ i = omega arith in
    let past : i + 1 ≡ length layers - at = omega arith in
    ap (λ n. has m (all_of (drop n layers))) here
    ∙ (sym (has_later layers i c.index-layers-place.result
    (record { within = omega arith; is = c.index-layers-place.is }) m c.has.result
    (c.has.ensures ∙ ap (has m) c.get.ensures) c.if-has.false)
    ∙ (ap (λ n. has m (all_of (drop n layers))) past ∙ c.loop-at.invariant))

pub returns : goal.returns
returns c =
    let layers = c.args.layers.now in
    let none : length layers - c.loop-at.at ≡ 0 = omega arith in
    sym c.loop-at.invariant ∙ ap (λ n. has c.args.mark.now (all_of (drop n layers))) none
