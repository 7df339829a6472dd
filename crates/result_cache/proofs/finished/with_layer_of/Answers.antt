use Rattle.std.proofs.Common.{[], ◌∷◌, ◌++◌, ap, sym, subst, ◌∙◌}
use Rattle.result_cache.specs.Kept.{runs_of, all_of}
use Rattle.result_cache.specs.Same.{AreDistinct}
use Rattle.result_cache.proofs.LayerSteps.{rest_all, distinct_last, joined_last}
use Rattle.result_cache.proofs.finished.with_layer_of.Goals as goal

pub join-requires : goal.join-requires
join-requires c =
    let layers = c.args.layers.now in
    let kept = c.how_many_stay-kept.result in
    subst (λ l. AreDistinct (runs_of (all_of l ++ c.args.recent.now))) (sym (rest_all layers kept))
    (distinct_last layers kept c.args.recent.now c.requires)

pub returns : goal.returns
returns c =
    let layers = c.args.layers.now in
    let kept = c.how_many_stay-kept.result in
    ap all_of (c.in_ok-push.ensures.ok ∙ (λ j. c.in_ok-all.ensures j ++ c.in_ok-new.ensures j ∷ []))
    ∙ joined_last layers kept c.args.recent.now c.in_ok-last.last
    (c.in_ok-last.ensures ∙ ap (λ l. all_of l ++ c.args.recent.now) (rest_all layers kept))
