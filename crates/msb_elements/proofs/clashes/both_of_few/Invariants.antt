use Rattle.std.proofs.Common.{◌≡◌, drop}
use Rattle.msb_elements.specs.Checks.{are_apart, first_two}
use Rattle.msb_elements.proofs.clashes.both_of_few.Given as goal

abbrev pub invariant-loop-at : goal.invariant-loop-at
invariant-loop-at l = first_two (are_apart l.kind l.attributes) l.attributes
    ≡ first_two (are_apart l.kind l.attributes) (drop l.at l.attributes)
