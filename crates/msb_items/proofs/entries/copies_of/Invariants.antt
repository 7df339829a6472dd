use Rattle.std.proofs.Common.{◌≡◌, map, take}
use Rattle.msb_items.proofs.entries.copies_of.Given as goal

abbrev pub invariant-loop-entry : goal.invariant-loop-entry
invariant-loop-entry l = l.items.items ≡ map (λ entry. entry.item) (take l.entry-index l.entries)
