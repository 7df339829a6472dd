use Rattle.std.proofs.Common.{◌≡◌, ◌*◌, ◌≤◌, length, sym, ap, ◌∙◌, arith, subst}
use Rattle.std.specs.Prelude.{replicate}
use Rattle.std.proofs.lemmas.List.{length-replicate}
use Rattle.target_order.specs.Chunks.{joined}
use Rattle.target_order.proofs.Chunks.{same_joined}
use Rattle.target_order.proofs.array.SharedArray.of.Goals as goal

pub returns-clause-long : goal.returns-clause-long
returns-clause-long g c =
    let w = c.layout_for-width.result.0 in
    let turns : c.loop.counter ≡ c.layout_for-width.result.1 = search arith in
    let chunks = c.in_ok-new.ensures
    ∙ (c.loop.invariant ∙ ap (λ x. replicate c.loop.counter x)
    (c.in_ok-chunk.ensures ∙ (c.from.ensures ∙ c.in_ok-repeat.ensures))) in
    let all = ap joined chunks ∙ same_joined w c.loop.counter c.args.entry in
    let len = ap length all ∙ length-replicate (c.loop.counter * w) c.args.entry in
    subst (λ n. c.args.count ≤ n) (sym (len ∙ ap (λ n. n * w) turns))
    c.layout_for-width.ensures.enough

pub returns-clause-same : goal.returns-clause-same
returns-clause-same g c =
    let w = c.layout_for-width.result.0 in
    let chunks = c.in_ok-new.ensures
    ∙ (c.loop.invariant ∙ ap (λ x. replicate c.loop.counter x)
    (c.in_ok-chunk.ensures ∙ (c.from.ensures ∙ c.in_ok-repeat.ensures))) in
    let all = ap joined chunks ∙ same_joined w c.loop.counter c.args.entry in
    let len = ap length all ∙ length-replicate (c.loop.counter * w) c.args.entry in
    all ∙ ap (λ n. replicate n c.args.entry) (sym len)
