use Rattle.std.proofs.Common.{◌≡◌, map, take}
use Rattle.msb_items.specs.RepeatKeys.{key_of}
use Rattle.msb_items.proofs.repeats.keys_of.Given as goal

abbrev pub invariant-loop-item : goal.invariant-loop-item
invariant-loop-item l = l.keys.items ≡ map (key_of l.defaults) (take l.item-index l.items)
