use Rattle.std.proofs.Common.{◌≡◌, drop}
use Rattle.msb_elements.specs.Checks.{first_bad}
use Rattle.msb_elements.proofs.attributes.first_bad.Given as goal

abbrev pub invariant-loop-name : goal.invariant-loop-name
invariant-loop-name l = first_bad l.kind l.attributes
    ≡ first_bad l.kind (drop l.name-index l.attributes)
