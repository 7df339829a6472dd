use Rattle.std.proofs.Common.{◌≡◌, ℕ, List, ◌++◌, map, Err, subst}
use Rattle.std.proofs.lemmas.Result.{err_from_is_err_and}
use Rattle.msb_laws.proofs.Collecting.{fold_stop}
use Rattle.msb_laws.specs.Results.{map_ok}
use Rattle.msb_values.specs.Caused.{UnlessMemory}
use Rattle.msb_items.specs.Batched.{attribute_read, joined_ok}
use Rattle.msb_items.specs.ReadTexts.{exprs_in}
use Rattle.msb_values.proofs.Causing.{unless}
use Rattle.msb_items.proofs.Turning.{fold-lists}
use Rattle.msb_items.proofs.batched.push_attributes.Goals as goal

pub loop-attribute-init : goal.loop-attribute-init
loop-attribute-init c = record {
  is = fold-lists (attribute_read (map (λ name. name.now) c.args.ignored.now))
      (exprs_in c.args.read.now.items) c.attributes-attribute-items.result.now;
}

pub returns-in_err-push_attribute : goal.returns-in_err-push_attribute
returns-in_err-push_attribute c =
    let p = err_from_is_err_and c.from_residual.result c.from_residual.ensures.1 in
    let cause = c.in_err-push_attribute.field-0.0 in
    let ignored = map (λ name. name.now) c.args.ignored.now in
    let P : List (List ℕ × List ℕ) → Type 0 = λ attributes.
    UnlessMemory cause
    (map_ok (λ more. exprs_in c.args.read.now.items ++ more)
    (joined_ok (attribute_read ignored) attributes) ≡ Err cause) in
    rw (p.1, p.2)
    (subst P c.attributes-attribute-items.ensures
    (unless _
    (fold_stop _ _ _ c.attribute-item.result _ _ _ c.loop-attribute.invariant
    c.loop-attribute-test.true c.attribute-item.is) c.in_err-push_attribute.ensures))
