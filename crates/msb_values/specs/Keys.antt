-- Names are compared without case, by their keys in lower case. (MSBuild properties.)
use Rattle.std.specs.Prelude.{ℕ, Option, Some, None}
use Rattle.std.specs.Str.{str_to_ascii_lowercase}
use Rattle.msb_laws.specs.Words.{Name, Text}
use Rattle.msb_values.specs.Names.{bad_place, is_name_byte}

abbrev pub key_if : Option ℕ → Text → Option Name
key_if None name = Some (str_to_ascii_lowercase name)
key_if (Some place) name = None

-- the key of a name; a text that is none has no key, and names nothing
abbrev pub key_of : Text → Option Name
key_of name = key_if (bad_place is_name_byte name) name
