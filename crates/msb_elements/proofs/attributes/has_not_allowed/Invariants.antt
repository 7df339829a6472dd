use Rattle.std.proofs.Common.{◌≡◌, drop}
use Rattle.std.specs.List.{list_any}
use Rattle.msb_elements.specs.Checks.{is_not_allowed}
use Rattle.msb_elements.specs.Stands.{role_of}
use Rattle.msb_elements.proofs.attributes.has_not_allowed.Given as goal

abbrev pub invariant-loop-name : goal.invariant-loop-name
invariant-loop-name l = list_any (λ pair. is_not_allowed (role_of l.kind pair.0)) l.attributes
    ≡ list_any (λ pair. is_not_allowed (role_of l.kind pair.0)) (drop l.name-index l.attributes)
