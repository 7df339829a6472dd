use Rattle.std.proofs.Common.{◌≡◌, map, take}
use Rattle.msb_items.proofs.target_items.copies_of.Given as goal

abbrev pub invariant-loop-item : goal.invariant-loop-item
invariant-loop-item l = l.copies ≡ map (λ item. item.now) (take l.item-index l.items)
