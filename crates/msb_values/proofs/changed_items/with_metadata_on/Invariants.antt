use Rattle.std.proofs.Common.{◌≡◌, ◌++◌, drop}
use Rattle.msb_values.specs.Changes.{with_metadata_on}
use Rattle.msb_values.proofs.changed_items.with_metadata_on.Given as goal

abbrev pub invariant-loop-item : goal.invariant-loop-item
invariant-loop-item l = l.changed ++ with_metadata_on l.given l.pairs (drop l.item-index l.items)
    ≡ with_metadata_on l.given l.pairs l.items
