use Rattle.std.proofs.Common.{◌≡◌, ◌++◌, map, drop}
use Rattle.msb_items.specs.Items.{item_of}
use Rattle.msb_items.proofs.entries.push_each.Given as goal

abbrev pub invariant-loop-found : goal.invariant-loop-found
invariant-loop-found l = l.items.items ++ map item_of (drop l.found-index l.matches)
    ≡ l.initial.items.items ++ map item_of l.matches
