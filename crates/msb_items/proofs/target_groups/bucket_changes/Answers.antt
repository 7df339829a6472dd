use Rattle.std.proofs.Common.{◌≡◌, ◌++◌, ◌∙◌, [], List, Result, Err, ap, subst, sym}
use Rattle.std.proofs.lemmas.Result.{err_from_is_err_and}
use Rattle.msb_laws.proofs.Collecting.{fold_stop}
use Rattle.msb_laws.specs.Results.{fold_ok, map_ok}
use Rattle.msb_values.specs.Caused.{UnlessMemory}
use Rattle.msb_values.specs.declared.change.Change.{Change}
use Rattle.msb_expand.specs.declared.lens.Bucket.{Bucket}
use Rattle.build_world.specs.declared.fault.EvalFault.{EvalFault}
use Rattle.build_world.specs.Elements.{seen_element}
use Rattle.msb_items.specs.Batched.{joined_ok}
use Rattle.element_texts.specs.Contexts.{ElementContext, in_bucket}
use Rattle.element_texts.specs.Seen.{context_of}
use Rattle.msb_items.specs.TargetGroups.{changes_in}
use Rattle.msb_values.proofs.Causing.{unless}
use Rattle.msb_items.proofs.Turning.{fold-lists, from_nothing}
use Rattle.msb_items.proofs.target_groups.bucket_changes.Goals as goal

pub loop-bucket-init : goal.loop-bucket-init
loop-bucket-init g c =
    let context = context_of g.F.Present.files c.args.context.now in
    let changes : Bucket → Result (List Change) EvalFault = λ bucket.
    changes_in c.args.element.now.group c.args.element.now.name.now (in_bucket context bucket)
    (seen_element c.args.element.now.at) in
    let buckets = c.args.buckets.now in
    record {
      is =
          sym (from_nothing (joined_ok changes buckets))
          ∙ fold-lists changes [] buckets
          ∙ ap (λ s. fold_ok (λ s bucket. map_ok (λ more. s ++ more) (changes bucket)) s buckets)
          (sym c.new-changes.ensures);
    }

pub returns-in_err-push_changes_in : goal.returns-in_err-push_changes_in
returns-in_err-push_changes_in g c =
    let p = err_from_is_err_and c.from_residual.result c.from_residual.ensures.1 in
    let fault = c.in_err-push_changes_in.field-0.0 in
    let P : ElementContext
    → Type 0 = λ context. UnlessMemory fault.cause
    (map_ok (λ more. c.loop-bucket.changes ++ more)
    (changes_in c.args.element.now.group c.args.element.now.name.now context
    (seen_element c.args.element.now.at))
    ≡ Err fault) in
    rw (p.1, p.2)
    (unless _
    (fold_stop _ _ _ c.bucket-item.result _ _ _ c.loop-bucket.invariant c.loop-bucket-test.true
    c.bucket-item.is) (subst P c.in_bucket.ensures c.in_err-push_changes_in.ensures))
