use Rattle.std.proofs.Common.{◌≡◌, ◌<◌, ℕ, [], length, get_or}
use Rattle.target_order.proofs.hooks.empty_lists.Given as goal

abbrev pub invariant-loop-k : goal.invariant-loop-k
invariant-loop-k l = (length l.lists.items ≡ l._k)
    × ((k : ℕ) → k < l._k → get_or l.lists.items k [] ≡ [])
