use Rattle.std.proofs.Common.{◌≡◌, ◌++◌, take, drop}
use Rattle.msb_values.specs.Changes.{with_metadata_on}
use Rattle.msb_items.proofs.applying.with_metadata_on.Given as goal

abbrev pub invariant-loop-item : goal.invariant-loop-item
invariant-loop-item l = take l.item-index l.item-items
    ++ with_metadata_on l.given l.pairs (drop l.item-index l.item-items)
    ≡ with_metadata_on l.given l.pairs l.fn.items.items
