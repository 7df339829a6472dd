use Rattle.std.proofs.Common.{◌≡◌, ◌++◌, map, drop}
use Rattle.task_trait.specs.Escaping.{handed_item}
use Rattle.task_trait.proofs.escaping.handed_items.Given as goal

abbrev pub invariant-loop-item : goal.invariant-loop-item
invariant-loop-item l = l.handed ++ map handed_item (drop l.item-index l.items)
    ≡ map handed_item l.items
