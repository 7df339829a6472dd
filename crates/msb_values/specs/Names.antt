-- What a name is, in characters. (MSBuild properties; MSBuild items; MSBuild targets.)
use Rattle.std.specs.Prelude.{
  ℕ,
  [],
  ◌∷◌,
  ◌+◌,
  ◌&&◌,
  ◌||◌,
  ◌==◌,
  Bool,
  not,
  nat_le,
  Option,
  Some,
  option_map,
  if◌then◌else◌,
}
use Rattle.std.specs.List.{position}
use Rattle.msb_laws.specs.Words.{Text}

-- an ASCII letter or `_`
abbrev pub is_letter : ℕ → Bool
is_letter b = (nat_le 65 b && nat_le b 90) || (nat_le 97 b && nat_le b 122) || b == 95

-- what may follow in a name: letters, digits, `_` and `-`
abbrev pub is_name_byte : ℕ → Bool
is_name_byte b = is_letter b || (nat_le 48 b && nat_le b 57) || b == 45

-- what may follow in a target's name: these, `.` and `:`
abbrev pub is_target_byte : ℕ → Bool
is_target_byte b = is_name_byte b || b == 46 || b == 58

-- the place of the first byte that a name can't have there, which an empty text lacks at 0
abbrev pub bad_place : (ℕ → Bool) → Text → Option ℕ
bad_place may_follow [] = Some 0
bad_place may_follow (b ∷ bs) = if is_letter b then option_map (λ n. n + 1)
    (position (λ c. not (may_follow c)) bs) else Some 0
