use Rattle.std.proofs.Common.{◌≡◌, map}
use Rattle.std.specs.Vec.Iter.{into_iter_items}
use Rattle.msb_batching.specs.Numbers.{numbered_list_of}
use Rattle.msb_batching.specs.Filling.{filled_with}
use Rattle.msb_batching.proofs.batching.fill.Given as goal

abbrev pub invariant-loop-list : goal.invariant-loop-list
invariant-loop-list l =
    filled_with l.tuples l.filled.items (map numbered_list_of (into_iter_items l.list-iterator))
    ≡ filled_with l.tuples l.fn.buckets.items (map numbered_list_of l.fn.lists.items)
