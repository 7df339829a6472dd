-- How a text is read as a name: in lower case, or refused at its first bad byte.
use Rattle.std.specs.Prelude.{◌≡◌, ℕ, Bool, Some, None, Result, Ok, Err}
use Rattle.std.specs.Str.{str_to_ascii_lowercase}
use Rattle.msb_laws.specs.Words.{Name, Text}
use Rattle.msb_values.specs.Names.{bad_place}
use Rattle.msb_values.specs.declared.errors.NameFault.{NameFault}
use Rattle.msb_values.specs.declared.errors.NameFault.TheVariants.{BadName, Memory}

abbrev pub ReadsName : (ℕ → Bool) → Text → Result Name NameFault → Type 0
ReadsName may_follow text (Ok name) = (bad_place may_follow text ≡ None)
    × (name ≡ str_to_ascii_lowercase text)
ReadsName may_follow text (Err (BadName at)) = bad_place may_follow text ≡ Some at
ReadsName may_follow text (Err Memory) = Unit {0}
