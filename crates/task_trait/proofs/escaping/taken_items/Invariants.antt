use Rattle.std.proofs.Common.{◌≡◌, ◌++◌, map, drop}
use Rattle.task_trait.specs.Escaping.{taken_item}
use Rattle.task_trait.proofs.escaping.taken_items.Given as goal

abbrev pub invariant-loop-item : goal.invariant-loop-item
invariant-loop-item l = l.taken ++ map taken_item (drop l.item-index l.items)
    ≡ map taken_item l.items
