use Rattle.std.proofs.Common.{◌≡◌, ◌++◌, map, drop}
use Rattle.msb_expand.specs.Seen.{seen_item}
use Rattle.msb_expand.specs.Values.{given, entries_in, if_small}
use Rattle.msb_expand.proofs.whole.Whole.push_items.Given as goal

abbrev pub invariant-loop-item : goal.invariant-loop-item
invariant-loop-item l =
    if_small (l.self ++ entries_in (given (map seen_item (drop l.item-index l.items))))
    ≡ if_small (l.initial.self ++ entries_in (given (map seen_item l.items)))
