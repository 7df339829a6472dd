use Rattle.std.proofs.Common.{◌≡◌, ◌++◌, drop}
use Rattle.msb_elements.proofs.copying.pairs.Given as goal

abbrev pub invariant-loop-name : goal.invariant-loop-name
invariant-loop-name l = l.copies.items ++ drop l.name-index l.attributes ≡ l.attributes
