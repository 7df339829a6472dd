use Rattle.std.proofs.Common.{◌≡◌, ◌++◌}
use Rattle.std.specs.Vec.Iter.{into_iter_items}
use Rattle.msb_values.specs.Changes.{without_named}
use Rattle.msb_items.proofs.applying.items_except.Given as goal

abbrev pub invariant-loop-item : goal.invariant-loop-item
invariant-loop-item l = l.kept.items ++ without_named l.texts (into_iter_items l.item-iterator)
    ≡ without_named l.texts l.fn.items.items
