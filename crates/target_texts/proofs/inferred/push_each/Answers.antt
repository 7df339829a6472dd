use Rattle.std.proofs.Common.{◌≡◌, ℕ, List, refl}
use Rattle.std.proofs.lemmas.Result.{err_from_is_err_and}
use Rattle.build_world.specs.Elements.{At}
use Rattle.element_texts.specs.Contexts.{ElementContext}
use Rattle.target_texts.specs.Inferred.{inference}
use Rattle.target_texts.proofs.Pushing.{pushed_none, pushed_next, pushed_stop, pushed_all}
use Rattle.target_texts.proofs.inferred.push_each.Goals as goal

same : (p q : ElementContext) (e f : At) (t u : List ℕ) → p ≡ q → e ≡ f → t ≡ u
    → inference p e t ≡ inference q f u
same p q e f t u context element task = rw (context, element, task) refl

pub loop-bucket-init : goal.loop-bucket-init
loop-bucket-init c = pushed_none _ c.args.buckets.now c.args.changes.now

pub loop-bucket-preserved : goal.loop-bucket-preserved
loop-bucket-preserved c =
    pushed_next _ _ _ c.bucket-item.result _ _ _ _ _ c.loop-bucket.invariant c.loop-bucket-test.true
    c.bucket-item.is
    (same _ _ _ _ _ _ c.in_bucket.ensures.context c.in_bucket.ensures.element
    c.in_bucket.ensures.task)
    c.in_ok-push_in_bucket.ensures.0 c.in_ok-push_in_bucket.ensures.1

pub returns : goal.returns
returns c = pushed_all _ _ _ _ _ _ c.loop-bucket.invariant c.loop-bucket-test.false

pub returns-in_err-push_in_bucket : goal.returns-in_err-push_in_bucket
returns-in_err-push_in_bucket c =
    let p = err_from_is_err_and c.from_residual.result c.from_residual.ensures.1 in
    rw (p.1, p.2)
    (pushed_stop _ _ _ c.bucket-item.result _ _ _ _ _ _ c.loop-bucket.invariant
    c.loop-bucket-test.true c.bucket-item.is
    (same _ _ _ _ _ _ c.in_bucket.ensures.context c.in_bucket.ensures.element
    c.in_bucket.ensures.task)
    c.in_err-push_in_bucket.ensures)
