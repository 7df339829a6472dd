use Rattle.std.proofs.Common.{◌≡◌, ◌≤◌, ◌<◌, ℕ, map, take, length, get_or}
use Rattle.std.specs.Borrow.{Bor}
use Rattle.target_order.specs.declared.row.TargetRow.{TargetRow}
use Rattle.target_order.specs.Table.{AreHooks}
use Rattle.target_order.proofs.hooks.hooks.Given as goal

abbrev pub invariant-loop-at : goal.invariant-loop-at
invariant-loop-at l =
    AreHooks l.side (take l.at (map (λ (x : Bor TargetRow). x.now) l.rows)) l.numbers
    l.hooks.lists.items
    × (length l.hooks.turns.items ≡ length l.numbers)
    × ((k : ℕ) → k < length l.numbers → get_or l.hooks.turns.items k 0 ≤ l.at)
