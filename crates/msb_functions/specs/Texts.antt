-- What the functions of a text find in it. A character is one of Unicode.
use Rattle.std.specs.Prelude.{
  ℕ,
  zero,
  suc,
  ◌-◌,
  Bool,
  true,
  false,
  ◌||◌,
  [],
  ◌∷◌,
  ◌++◌,
  length,
  take,
  drop,
  nat_eq,
}
use Rattle.std.specs.List.{starts_with}
use Rattle.std.specs.Str.{chars, encode_utf8_all}
use Rattle.msb_laws.specs.Words.{Text}

-- the part stands somewhere in the text
abbrev pub contains : Text → Text → Bool
contains [] part = starts_with nat_eq [] part
contains (b ∷ bs) part = starts_with nat_eq (b ∷ bs) part || contains bs part

-- `past` bytes are still of a part that was found; then each `from`, from the left and without
-- overlap, becomes `to`
abbrev pub replaced_past : Text → Text → ℕ → Text → Text
replaced_past from to past [] = []
replaced_past from to (suc past) (b ∷ bs) = replaced_past from to past bs
replaced_past from to zero (b ∷ bs) =
    elim (starts_with nat_eq (b ∷ bs) from) [
      | true ↦ to ++ replaced_past from to (length from - 1) bs
      | false ↦ b ∷ replaced_past from to zero bs
    ]

abbrev pub replaced : Text → Text → Text → Text
replaced from to text = replaced_past from to 0 text

-- so many characters from a place on
abbrev pub characters_at : ℕ → ℕ → Text → Text
characters_at place count text = encode_utf8_all (take count (drop place (chars text)))

-- all characters from a place on
abbrev pub characters_from : ℕ → Text → Text
characters_from place text = encode_utf8_all (drop place (chars text))
