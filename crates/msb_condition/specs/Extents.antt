-- How far a quoted text and a reference go. In an item reference a quote ends no text that holds
-- the reference, and in its own quotes a parenthesis closes nothing.
use Rattle.std.specs.Prelude.{ℕ, ◌+◌, ◌-◌, Bool, true, false, ◌==◌, [], ◌∷◌, if◌then◌else◌}
use Rattle.msb_laws.specs.Words.{Text}
use Rattle.msb_condition.specs.declared.extents.Inside.{Inside}
use Rattle.msb_condition.specs.declared.extents.Inside.TheVariants.{
  Text as PlainText,
  AtSign,
  Reference,
  Quotes,
}

-- inside what the next byte stands: a reference has so many parentheses open in it, one for each
-- but the first
abbrev pub behind_text : ℕ → Inside
behind_text b = if b == 64 then AtSign else PlainText

abbrev pub behind_at_sign : ℕ → Inside
behind_at_sign b = if b == 40 then Reference 0 else behind_text b

abbrev pub closed : ℕ → Inside
closed depth = if depth == 0 then PlainText else Reference (depth - 1)

abbrev pub behind_reference : ℕ → ℕ → Inside
behind_reference depth b =
    if b == 39 then Quotes depth else
    if b == 40 then Reference (depth + 1) else
    if b == 41 then closed depth else Reference depth

abbrev pub behind : Inside → ℕ → Inside
behind PlainText b = behind_text b
behind AtSign b = behind_at_sign b
behind (Reference depth) b = behind_reference depth b
behind (Quotes depth) b = if b == 39 then Reference depth else Quotes depth

-- the byte is the quote that ends the text
abbrev pub ends_text : Inside → ℕ → Bool
ends_text PlainText b = b == 39
ends_text AtSign b = b == 39
ends_text (Reference depth) b = false
ends_text (Quotes depth) b = false

-- how many bytes come before that quote, or before the end where there is none
abbrev pub text_len : Inside → Text → ℕ
text_len inside [] = 0
text_len inside (b ∷ bs) = elim (ends_text inside b)
    [ true ↦ 0 | false ↦ text_len (behind inside b) bs + 1 ]

abbrev pub is_text : Inside → Bool
is_text PlainText = true
is_text AtSign = false
is_text (Reference depth) = false
is_text (Quotes depth) = false

-- how many bytes a reference has, through the parenthesis that closes it, or to the end where there
-- is none
abbrev pub reference_len : Inside → Text → ℕ
reference_len inside [] = 0
reference_len inside (b ∷ bs) = elim (is_text inside)
    [ true ↦ 0 | false ↦ reference_len (behind inside b) bs + 1 ]

-- how many parentheses are open in a reference, besides its own
abbrev pub depth_of : Inside → ℕ
depth_of PlainText = 0
depth_of AtSign = 0
depth_of (Reference depth) = depth
depth_of (Quotes depth) = depth
