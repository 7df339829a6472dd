use Rattle.std.proofs.Common.{◌≡◌, ◌&&◌, drop}
use Rattle.std.specs.Str.{str_to_ascii_lowercase}
use Rattle.msb_elements.specs.Checks.{is_named, is_same, first_other}
use Rattle.msb_elements.specs.Stands.{role_of}
use Rattle.msb_elements.proofs.clashes.same_name.Given as goal

abbrev pub invariant-loop-other : goal.invariant-loop-other
invariant-loop-other l =
    first_other (λ other. is_named (role_of l.kind other)
    && is_same (str_to_ascii_lowercase l.name) other) l.rest
    ≡ first_other (λ other. is_named (role_of l.kind other)
    && is_same (str_to_ascii_lowercase l.name) other) (drop l.other-index l.rest)
