use Rattle.std.proofs.Common.{◌≡◌, ◌++◌, map}
use Rattle.std.specs.Vec.Iter.{into_iter_items}
use Rattle.msb_expand.specs.Functions.{without_metadata}
use Rattle.msb_expand.specs.Seen.{seen_item}
use Rattle.msb_expand.proofs.kept.without_metadata.Given as goal

-- what is cleared, and what is left to clear
abbrev pub invariant-loop-item : goal.invariant-loop-item
invariant-loop-item l = map seen_item l.cleared.items
    ++ map without_metadata (map seen_item (into_iter_items l.item-iterator))
    ≡ map without_metadata (map seen_item l.fn.items.items)
