use Rattle.std.proofs.Common.{◌≡◌, [], map}
use Rattle.std.specs.Vec.Iter.{into_iter_items}
use Rattle.msb_batching.specs.Numbers.{numbered_of, spread_over}
use Rattle.msb_batching.proofs.numbered.spread.Given as goal

abbrev pub invariant-loop-numbered : goal.invariant-loop-numbered
invariant-loop-numbered l =
    spread_over l.lists.items (map numbered_of (into_iter_items l.numbered-iterator))
    ≡ spread_over (map (λ tuple. []) l.tuples) (map numbered_of l.fn.items.items)
