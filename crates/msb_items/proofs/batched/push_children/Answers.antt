use Rattle.std.proofs.Common.{◌≡◌, ◌++◌, ◌∙◌, Err, subst}
use Rattle.std.proofs.lemmas.Result.{err_from_is_err_and}
use Rattle.msb_laws.proofs.Collecting.{fold_stop}
use Rattle.msb_laws.specs.Results.{map_ok}
use Rattle.msb_values.specs.Caused.{UnlessMemory}
use Rattle.build_world.specs.Elements.{At, children_of, seen_element}
use Rattle.msb_items.specs.Batched.{child_read}
use Rattle.msb_items.specs.ReadTexts.{exprs_in}
use Rattle.msb_values.proofs.Causing.{unless}
use Rattle.msb_items.proofs.Turning.{fold-lists, over_children}
use Rattle.msb_items.proofs.batched.push_children.Goals as goal

pub loop-child-init : goal.loop-child-init
loop-child-init c =
    let s = exprs_in c.args.read.now.items in
    record {
      is =
          fold-lists child_read s (children_of (seen_element c.args.element.now))
          ∙ over_children (λ s e. map_ok (λ more. s ++ more) (child_read e))
          c.args.element.now.file.now s _ _ c.children-child-items.ensures;
    }

pub returns-in_err-push_child : goal.returns-in_err-push_child
returns-in_err-push_child c =
    let p = err_from_is_err_and c.from_residual.result c.from_residual.ensures.1 in
    let fault = c.in_err-push_child.field-0.0 in
    let P : At
    → Type 0 = λ e. UnlessMemory fault.cause
    (map_ok (λ more. exprs_in c.loop-child.read.items ++ more) (child_read e) ≡ Err fault) in
    rw (p.1, p.2)
    (unless _
    (fold_stop _ _ _ c.child-item.result _ _ _ c.loop-child.invariant c.loop-child-test.true
    c.child-item.is) (subst P c.child.ensures c.in_err-push_child.ensures))
