use Rattle.std.proofs.Common.{◌≡◌, ◌+◌, ◌==◌, ◌||◌, Ok, Some, length, arith, sym, ap, ◌∙◌}
use Rattle.std.proofs.lemmas.Result.{err_from_is_err_and}
use Rattle.std.specs.Result.{result_err}
use Rattle.serde_json.specs.View.{view as value_of, items_view}
use Rattle.msb_elements.specs.Checks.{is_on_error}
use Rattle.msb_elements.specs.Stands.{standing_of, child_kind}
use Rattle.msb_elements.specs.Trees.{tree_of, trees_of}
use Rattle.msb_elements.proofs.Formed.{
  no_tree_fault,
  element_out,
  own_refuses,
  below_refuses,
  so_far_start,
  so_far_step,
  so_far_stop,
  so_far_end,
  last_is,
}
use Rattle.msb_elements.proofs.Heights.{heights}
use Rattle.msb_elements.proofs.reading.+element.Goals as goal

pub element-returns-in-Err-NotElement : goal.element-returns-in-Err-NotElement
element-returns-in-Err-NotElement t c = ap result_err
    (no_tree_fault c.args.position.parent c.args.position.after_on_error c.args.position.is_last
    c.args.place (tree_of (value_of c.args.value))
    (rw c.in-Err-NotElement.field-0-is at c.in-Err-NotElement.ensures))

pub element-returns-in_err-check_own : goal.element-returns-in_err-check_own
element-returns-in_err-check_own t c =
    let p = err_from_is_err_and c.from_residual.result c.from_residual.ensures.1 in
    let out = element_out c.args.position.parent c.args.position.after_on_error
    c.args.position.is_last c.args.place (tree_of (value_of c.args.value)) _ _ _ _
    c.of-standing.result c.in-Ok.ensures (c.of-standing.ensures
    ∙ ap (standing_of c.args.position.parent) c.as_str.ensures) in
    rw (p.1, p.2)
    (own_refuses c.in_err-check_own.field-0.0 _ _ _ _ _ _ _ out c.in_err-check_own.ensures)

pub element-returns-in_err-children : goal.element-returns-in_err-children
element-returns-in_err-children t c =
    let p = err_from_is_err_and c.from_residual-in_err-children.result
    c.from_residual-in_err-children.ensures.1 in
    let out = element_out c.args.position.parent c.args.position.after_on_error
    c.args.position.is_last c.args.place (tree_of (value_of c.args.value)) _ _ _ _
    c.of-standing.result c.in-Ok.ensures (c.of-standing.ensures
    ∙ ap (standing_of c.args.position.parent) c.as_str.ensures) in
    rw (p.1, p.2)
    (below_refuses c.in_err-children.field-0.0 _ _ _ _ _ _ _ out c.in_ok-check_own.ensures
    c.in_err-children.ensures)

pub element-returns : goal.element-returns
element-returns t c =
    let out = element_out c.args.position.parent c.args.position.after_on_error
    c.args.position.is_last c.args.place (tree_of (value_of c.args.value)) _ _ _ _
    c.of-standing.result c.in-Ok.ensures (c.of-standing.ensures
    ∙ ap (standing_of c.args.position.parent) c.as_str.ensures) in
    out ∙ rw (c.in_ok-check_own.ensures, c.in_ok-children.ensures) (ap Ok (sym c.new.ensures))

pub children-loop-number-init : goal.children-loop-number-init
children-loop-number-init t c =
    let same : c.into_iter-number-iterator.result.iter.rest.items ≡ c.args.entries.items = cc in
    let zero : c.into_iter-number-iterator.result.count ≡ 0 = cc in
    let left : c.into_iter-number-iterator.result.iter.rest.len ≡ c.args.entries.len = cc in
    let long : length c.into_iter-number-iterator.result.iter.rest.items
    ≡ length c.args.entries.items = ap length same in
    record {
      so_far = so_far_start _ _ _ _ _ _ same zero c.in_ok-all.ensures.items;
      counted = omega (arith, long, zero, c.len-count.ensures, c.args.entries.ok.0);
      left = omega (arith, long, left, c.args.entries.ok.0);
      less_deep = rw same (omega arith);
    }

pub children-element-requires : goal.children-element-requires
children-element-requires t c =
    let e = ap (λ vs. heights (trees_of (items_view vs))) c.in-Some.ensures.steps.0.0 in
    (omega (arith, e, c.decreases, c.loop-number.invariant.less_deep), tt)

pub children-returns-in_err-child : goal.children-returns-in_err-child
children-returns-in_err-child t c =
    let p = err_from_is_err_and c.from_residual-in_err-child.result
    c.from_residual-in_err-child.ensures.1 in
    let steps = c.in-Some.ensures.steps in
    let so_far = c.loop-number.invariant in
    rw (p.1, p.2)
    (so_far_stop c.in_err-child.field-0.0 _ _ _ _ _ _ _
    (c.in-Some.number + 1 == c.len-count.result) _ _ so_far.so_far steps.0.0
    (last_is _ _ _ c.in-Some.number c.len-count.result steps.0.0 (rw steps.1 so_far.counted))
    (rw (← steps.1, ← c.in_ok-own_place.ensures) c.in_err-child.ensures))

pub children-returns : goal.children-returns
children-returns t c = so_far_end _ _ _ _ _ _ _
    (c.loop-number.invariant.left ∙ c.in-None.ensures.steps.0.0) c.loop-number.invariant.so_far

pub children-loop-number-preserved : goal.children-loop-number-preserved
children-loop-number-preserved t c =
    let steps = c.in-Some.ensures.steps in
    let before = c.loop-number.invariant in
    let kind = c.args.kind in
    let next = c.is_after-after_on_error.ensures
    ∙ ap (λ name. c.loop-number.after_on_error || is_on_error (child_kind (Some kind) name))
    c.name.ensures in
    let shorter = ap length steps.0.0 in
    let shallower = ap (λ vs. heights (trees_of (items_view vs))) steps.0.0 in
    record {
      so_far = rw (c.in_ok-push.ensures.items, steps.2)
          (so_far_step _ _ _ _ _ _ _ (c.in-Some.number + 1 == c.len-count.result) _ _
          c.in_ok-child.child _ before.so_far steps.0.0
          (last_is _ _ _ c.in-Some.number c.len-count.result steps.0.0 (rw steps.1 before.counted))
          (rw (← steps.1, ← c.in_ok-own_place.ensures) c.in_ok-child.ensures) next);
      counted = omega (arith, shorter, steps.2, before.counted);
      left = omega (arith, shorter, steps.0.1, before.left);
      less_deep = omega (arith, shallower, before.less_deep);
    }
