use Rattle.std.proofs.Common.{◌≡◌, ◌++◌, drop}
use Rattle.std.specs.Prelude.{codes}
use Rattle.msb_expand.specs.Joins.{each_behind}
use Rattle.target_texts.proofs.outputs.push_each.Given as goal

abbrev pub invariant-loop-item : goal.invariant-loop-item
invariant-loop-item l = l.text ++ each_behind (codes ";") (drop l.item-index l.items)
    ≡ l.initial.text ++ each_behind (codes ";") l.items
