use Rattle.std.proofs.Common.{map, [], sym, ap, ◌∙◌, subst}
use Rattle.std.specs.Borrow.{Bor}
use Rattle.target_order.specs.declared.row.TargetRow.{TargetRow}
use Rattle.target_order.specs.declared.hooks.Side.TheVariants.{Before, After}
use Rattle.target_order.specs.Visit.{first_rows}
use Rattle.target_order.specs.Table.{AreHooks}
use Rattle.target_order.proofs.table.SharedTable.of.Goals as goal

pub returns-clause-before : goal.returns-clause-before
returns-clause-before c =
    let same = ap (map (λ (x : Bor TargetRow). x.now)) c.deref.ensures.value
    ∙ c.in_ok-firsts.ensures.rows in
    subst (λ t. AreHooks Before (first_rows [] c.args.rows.now) t.names t.before)
    (sym c.in_ok-share.ensures)
    (subst (λ rs. AreHooks Before rs c.in_ok-firsts.numbers c.in_ok-before.before.items) same
    c.in_ok-before.ensures)

pub returns-clause-after : goal.returns-clause-after
returns-clause-after c =
    let same = ap (map (λ (x : Bor TargetRow). x.now)) c.deref-2.ensures.value
    ∙ c.in_ok-firsts.ensures.rows in
    subst (λ t. AreHooks After (first_rows [] c.args.rows.now) t.names t.after)
    (sym c.in_ok-share.ensures)
    (subst (λ rs. AreHooks After rs c.in_ok-firsts.numbers c.in_ok-after.after.items) same
    c.in_ok-after.ensures)
