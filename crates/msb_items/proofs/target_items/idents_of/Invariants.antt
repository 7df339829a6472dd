use Rattle.std.proofs.Common.{◌≡◌, map, take}
use Rattle.msb_items.proofs.target_items.idents_of.Given as goal

abbrev pub invariant-loop-item : goal.invariant-loop-item
invariant-loop-item l = l.idents ≡ map (λ item. item.ident)
    (map (λ item. item.now) (take l.item-index l.items))
