use Rattle.std.proofs.Common.{◌≡◌, ◌++◌, map, drop}
use Rattle.msb_expand.specs.Limits.{if_short}
use Rattle.msb_expand.specs.Seen.{seen_item}
use Rattle.msb_expand.specs.Joins.{each_behind}
use Rattle.msb_expand.proofs.joins.push_each.Given as goal

abbrev pub invariant-loop-item : goal.invariant-loop-item
invariant-loop-item l =
    if_short (l.text ++ each_behind l.separator (map seen_item (drop l.item-index l.items)))
    ≡ if_short (l.initial.text ++ each_behind l.separator (map seen_item l.items))
