-- Escaped characters in a text. (MSBuild special characters.)
use Rattle.std.specs.Prelude.{
  ℕ,
  [],
  ◌∷◌,
  ◌++◌,
  ◌+◌,
  ◌*◌,
  ◌&&◌,
  ◌==◌,
  Bool,
  true,
  false,
  nat_lt,
  Option,
  Some,
  None,
  codes,
  if◌then◌else◌,
}
use Rattle.std.specs.Char.{digit_value, encode_utf8}
use Rattle.std.specs.List.{flat_map}
use Rattle.msb_laws.specs.Words.{Text}

-- the special characters are written by their numbers, any other byte stays
abbrev pub escape_of : ℕ → Text
escape_of b =
    if b == 37 then codes "%25" else
    if b == 36 then codes "%24" else
    if b == 64 then codes "%40" else
    if b == 39 then codes "%27" else
    if b == 59 then codes "%3B" else
    if b == 63 then codes "%3F" else
    if b == 42 then codes "%2A" else
    b ∷ []

abbrev pub escaped : Text → Text
escaped text = flat_map escape_of text

abbrev pub is_hex : ℕ → Bool
is_hex b = nat_lt (digit_value b) 16

-- the number of two hexadecimal digits
abbrev pub hex_number : ℕ → ℕ → ℕ
hex_number high low = digit_value high * 16 + digit_value low

-- a `%` with two hexadecimal digits is the character of that number, anything else stays
abbrev pub unescaped : Text → Text
unescaped (b ∷ high ∷ low ∷ rest) =
    elim (b == 37 && is_hex high && is_hex low) [
      | true ↦ encode_utf8 (hex_number high low) ++ unescaped rest
      | false ↦ b ∷ unescaped (high ∷ low ∷ rest)
    ]
unescaped text = text

-- the number of the two hexadecimal digits that a text begins with
abbrev pub number_at : Text → Option ℕ
number_at (high ∷ low ∷ rest) = if is_hex high
    && is_hex low then Some (hex_number high low) else None
number_at text = None
