-- Texts that are equal without case: equal by Unicode's default caseless matching. (MSBuild
-- conditions.)
use Rattle.std.specs.Prelude.{ℕ, List, Bool, chars}
use Rattle.std.specs.Str.{bytes_eq}
use Rattle.msb_laws.specs.Words.{Text}
use Rattle.caseless.specs.Caseless.{default_case_fold}

-- the characters, each in place of its capital and small forms
abbrev pub folded : Text → List ℕ
folded text = default_case_fold (chars text)

abbrev pub is_same_text : Text → Text → Bool
is_same_text a b = bytes_eq (folded a) (folded b)
