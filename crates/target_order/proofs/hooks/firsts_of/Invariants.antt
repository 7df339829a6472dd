use Rattle.std.proofs.Common.{◌≡◌, [], map, drop}
use Rattle.std.specs.Borrow.{Bor}
use Rattle.target_order.specs.declared.row.TargetRow.{TargetRow}
use Rattle.target_order.specs.Visit.{first_rows}
use Rattle.target_order.specs.Table.{names_in, AreDistinct}
use Rattle.target_order.proofs.hooks.firsts_of.Given as goal

abbrev pub invariant-loop-row : goal.invariant-loop-row
invariant-loop-row l =
    (first_rows (map (λ (x : Bor TargetRow). x.now) l.firsts.items) (drop l.row-index l.rows)
    ≡ first_rows [] l.rows)
    × (l.numbers ≡ names_in (map (λ (x : Bor TargetRow). x.now) l.firsts.items))
    × AreDistinct l.numbers
