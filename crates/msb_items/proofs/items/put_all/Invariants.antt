use Rattle.std.proofs.Common.{◌≡◌, ◌++◌, take, drop}
use Rattle.std.specs.Vec.Iter.{into_iter_items}
use Rattle.msb_items.specs.Replaced.{replaced}
use Rattle.msb_items.proofs.items.put_all.Given as goal

abbrev pub invariant-loop-item : goal.invariant-loop-item
invariant-loop-item l =
    take l.item-index l.items ++ replaced (drop l.item-index l.items)
    (into_iter_items l.replacements)
    ≡ replaced l.initial.items (into_iter_items l.initial.replacements)
