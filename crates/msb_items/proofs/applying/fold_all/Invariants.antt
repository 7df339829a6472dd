use Rattle.std.proofs.Common.{◌≡◌, map, take}
use Rattle.msb_values.specs.Folded.{folded_bytes}
use Rattle.msb_items.proofs.applying.fold_all.Given as goal

abbrev pub invariant-loop-text : goal.invariant-loop-text
invariant-loop-text l = l.folded.items ≡ map folded_bytes (take l.text-index l.texts)
