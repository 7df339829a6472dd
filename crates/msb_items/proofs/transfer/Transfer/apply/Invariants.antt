use Rattle.std.proofs.Common.{◌≡◌, ◌++◌, map, take, drop}
use Rattle.msb_items.specs.Transfers.{transferred}
use Rattle.msb_items.proofs.transfer.Transfer.apply.Given as goal

abbrev pub invariant-loop-item : goal.invariant-loop-item
invariant-loop-item l = take l.item-index l.items
    ++ map (transferred l.self) (drop l.item-index l.items)
    ≡ map (transferred l.self) l.initial.items
