-- The JSON value of a whole file.
use Rattle.std.proofs.Common.{◌≡◌, ℕ, List, Bool, true, false, Some, None, refl}
use Rattle.std.specs.Str.{IsUtf8, is_utf8}
use Rattle.std.proofs.lemmas.Str.{IsUtf8-from_is_utf8, is_utf8-from_IsUtf8}
use Rattle.serde_json.specs.Data.{Data}
use Rattle.serde_json.specs.Read.{read}
use Rattle.msb_elements.specs.Forms.{json_in}

pub json_some : (bytes : List ℕ) (d : Data) → IsUtf8 bytes → read bytes ≡ Some d
    → json_in bytes ≡ Some d
unfolding json_in
json_some bytes d utf8 some = rw (is_utf8-from_IsUtf8 bytes utf8) some

none_at : (bytes : List ℕ) (b : Bool) → is_utf8 bytes ≡ b → (IsUtf8 bytes → read bytes ≡ None)
    → json_in bytes ≡ None
unfolding json_in
none_at bytes true is none = rw is (none (IsUtf8-from_is_utf8 bytes is))
none_at bytes false is none = rw is refl

pub json_none : (bytes : List ℕ) → (IsUtf8 bytes → read bytes ≡ None) → json_in bytes ≡ None
json_none bytes none = none_at bytes _ refl none
