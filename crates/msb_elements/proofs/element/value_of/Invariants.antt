use Rattle.std.proofs.Common.{◌≡◌, drop}
use Rattle.msb_values.specs.Pairs.{value_at}
use Rattle.msb_elements.proofs.element.value_of.Given as goal

abbrev pub invariant-loop-key : goal.invariant-loop-key
invariant-loop-key l = value_at l.name l.attributes
    ≡ value_at l.name (drop l.key-index l.attributes)
