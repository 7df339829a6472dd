-- A text folded once, so that what is folded is compared by bytes. (MSBuild conditions.)
use Rattle.std.specs.Prelude.{◌≡◌, encode_utf8_all}
use Rattle.std.specs.Str.{bytes_eq}
use Rattle.msb_laws.specs.Words.{Text}
use Rattle.msb_values.specs.Same.{folded, is_same_text}

-- the folded characters in UTF-8
abbrev pub folded_bytes : Text → Text
folded_bytes text = encode_utf8_all (folded text)

-- what is folded is equal by bytes just where the texts are equal without case
abbrev pub FoldsAsCompared : Type 0
FoldsAsCompared = (a b : Text) → bytes_eq (folded_bytes a) (folded_bytes b) ≡ is_same_text a b
