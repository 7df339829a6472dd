use Rattle.std.proofs.Common.{◌≡◌, ◌++◌, drop}
use Rattle.msb_values.specs.Changes.{without_named}
use Rattle.msb_values.proofs.changed_items.items_except.Given as goal

abbrev pub invariant-loop-item : goal.invariant-loop-item
invariant-loop-item l = l.kept ++ without_named l.texts (drop l.item-index l.items)
    ≡ without_named l.texts l.items
