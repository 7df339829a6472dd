use Rattle.std.proofs.Common.{◌≤◌, [], length, ap, subst}
use Rattle.target_order.specs.Visit.{first_rows}
use Rattle.target_order.proofs.Starting.{is_table, start_left, start_sound}
use Rattle.target_order.proofs.walk.OrderWalk.start.Goals as goal

pub invariant_of-result : goal.invariant_of-result
invariant_of-result c =
    let rows = first_rows [] c.as_slice.result.now in
    let table = c.in_ok-table.table in
    let made = c.in_ok-table.ensures in
    let count = c.count-count.ensures in
    let flags : length table.names ≤ length c.in_ok-of-3.field-0 = subst
    (λ n. n ≤ length c.in_ok-of-3.field-0) count c.in_ok-of-3.ensures.long in
    let places : length table.names ≤ length c.in_ok-of-2.field-0 = subst
    (λ n. n ≤ length c.in_ok-of-2.field-0) count c.in_ok-of-2.ensures.long in
    start_sound table c.in_ok-of.field-0 c.in_ok-new.field-0 c.in_ok-of-3.field-0
    c.in_ok-of-2.field-0 (is_table rows table made.names made.distinct made.before made.after)
    c.in_ok-new.ensures flags places

pub returns-clause-order : goal.returns-clause-order
returns-clause-order c =
    let rows = first_rows [] c.as_slice.result.now in
    let table = c.in_ok-table.table in
    let made = c.in_ok-table.ensures in
    start_left rows table made.names made.distinct made.before made.after c.args.rows.now
    c.in_ok-of.field-0 c.args.targets.now c.in_ok-new.field-0 c.in_ok-of-3.field-0
    (length c.in_ok-of-3.field-0)
    (ap (first_rows []) c.as_slice.ensures) c.in_ok-of.ensures c.in_ok-of-3.ensures.same
