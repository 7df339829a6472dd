use Rattle.std.proofs.Common.{◌≡◌, ◌++◌, map, take, drop}
use Rattle.msb_values.specs.Changes.{with_metadata}
use Rattle.msb_items.proofs.pairs.put_pairs.Given as goal

abbrev pub invariant-loop-item : goal.invariant-loop-item
invariant-loop-item l = take l.item-index l.items
    ++ map (with_metadata l.pairs) (drop l.item-index l.items)
    ≡ map (with_metadata l.pairs) l.initial.items
