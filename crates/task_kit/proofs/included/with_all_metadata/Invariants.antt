use Rattle.std.proofs.Common.{◌≡◌, ◌++◌, map}
use Rattle.std.specs.Vec.Iter.{into_iter_items}
use Rattle.msb_values.specs.Changes.{with_metadata}
use Rattle.task_kit.proofs.included.with_all_metadata.Given as goal

abbrev pub invariant-loop-item : goal.invariant-loop-item
invariant-loop-item l = l.changed ++ map (with_metadata l.metadata)
    (into_iter_items l.item-iterator) ≡ map (with_metadata l.metadata) l.fn.items.items
