-- Where a text that has no reading is refused, and how.
use Rattle.std.specs.Prelude.{
  ◌≡◌,
  ℕ,
  zero,
  suc,
  ◌+◌,
  Bool,
  false,
  ◌&&◌,
  ◌||◌,
  not,
  ◌==◌,
  List,
  [],
  ◌∷◌,
  ◌++◌,
  length,
  reverse,
  if◌then◌else◌,
}
use Rattle.msb_laws.specs.Words.{Text}
use Rattle.msb_expression.specs.declared.expression.Part.{Part}
use Rattle.msb_expression.specs.declared.sorts.Kind.{Kind}
use Rattle.msb_expression.specs.declared.sorts.Kind.TheVariants.{Name, Transform, Nested}
use Rattle.msb_expression.specs.declared.faults.ExprFault.{ExprFault}
use Rattle.msb_expression.specs.declared.faults.ExprFault.TheVariants.{
  Unclosed,
  BadName,
  BadTransform,
  NestedTransform,
  Memory,
}
use Rattle.msb_expression.specs.Grammar.{IsReading, is_letter, is_name_byte}

-- some text that begins so has a reading
abbrev pub CanGoOn : Text → Type 0
CanGoOn front = (more : Text) × (parts : List Part) × IsReading (front ++ more) parts

-- Where a text is left: outside each reference, behind some byte; or inside one that began with a
-- mark, so many `(`
-- deep, and there perhaps in quotes.
pub data Left : Type 0 where
  outside : (last : ℕ) → Left
  inside : (mark depth : ℕ) → Left
  in_quotes : (mark depth : ℕ) → Left

abbrev pub is_mark : ℕ → Bool
is_mark b = b == 36 || (b == 37 || b == 64)

abbrev pub closed : ℕ → ℕ → Left
closed mark zero = outside 41
closed mark (suc depth) = inside mark depth

abbrev pub left_behind : Left → ℕ → Left
left_behind (outside last) b = if b == 40 && is_mark last then inside last 0 else outside b
left_behind (inside mark depth) b =
    if b == 39 then in_quotes mark depth else
    if b == 40 then inside mark (depth + 1) else
    if b == 41 then closed mark depth else inside mark depth
left_behind (in_quotes mark depth) b = if b == 39 then inside mark depth else in_quotes mark depth

abbrev pub left_after : Left → Text → Left
left_after left [] = left
left_after left (b ∷ bs) = left_after (left_behind left b) bs

-- it stands inside a `$(` that stands inside no other reference, whose calls are read
abbrev pub is_in_property : Left → Bool
is_in_property (outside last) = false
is_in_property (inside mark depth) = mark == 36
is_in_property (in_quotes mark depth) = mark == 36

-- In what follows, back is what stands before a byte, the nearest byte first.

abbrev pub is_first : ℕ → Text → Bool
is_first byte [] = false
is_first byte (b ∷ back) = b == byte

-- it stands inside `$(` or `%(`: those stand before it, with neither `)` nor `'` between
abbrev pub is_inside : Text → Bool
is_inside [] = false
is_inside (b ∷ back) =
    (b == 40 && (is_first 36 back || is_first 37 back))
    || (not (b == 41 || b == 39) && is_inside back)

-- behind the mark, `(` and spaces
abbrev pub is_opened : ℕ → Text → Bool
is_opened mark [] = false
is_opened mark (b ∷ back) = (b == 40 && is_first mark back) || (b == 32 && is_opened mark back)

-- behind these and a name
abbrev pub is_named : ℕ → Text → Bool
is_named mark [] = false
is_named mark (b ∷ back) = (is_letter b && is_opened mark back)
    || (is_name_byte b && is_named mark back)

-- behind these and spaces
abbrev pub is_spaced : ℕ → Text → Bool
is_spaced mark [] = false
is_spaced mark (b ∷ back) = b == 32 && (is_named mark back || is_spaced mark back)

-- Of a byte that stands outside these, the first of this list that fits: the `(` of `@(`, which is
-- bad in a transform alone; the `.` behind the name of a `%(`, bad in a transform alone; anything
-- inside `$(` or `%(`; anything in the type name of `@(`, in that name's spaces or right behind
-- them; any other byte.
abbrev pub kind_of : ℕ → Text → Kind
kind_of byte back =
    if byte == 40 && is_first 64 back then Nested else
    if byte == 46 && (is_named 37 back || is_spaced 37 back) then Transform else
    if is_inside back then Name else
    if is_opened 64 back || (is_named 64 back || is_spaced 64 back) then Name else Transform

-- of a byte behind this front
abbrev pub kind_at : ℕ → Text → Kind
kind_at byte front =
    if is_in_property (left_after (outside 0) front) then Name else kind_of byte (reverse front)

-- The bad byte, which is the first such that no text that begins with all bytes through it has a
-- reading.
pub record IsBadAt (text : Text) (place : ℕ) (kind : Kind) : Type 0 where
  pub front : Text
  pub byte : ℕ
  pub rest : Text
  pub whole : text ≡ front ++ byte ∷ rest
  pub place_is : length front ≡ place
  pub before : CanGoOn front
  pub through : CanGoOn (front ++ byte ∷ []) → ⊥
  pub kind_is : kind_at byte front ≡ kind

-- the text ends too early: it has no reading, and a longer one has
pub record IsUnclosed (text : Text) (place : ℕ) : Type 0 where
  pub goes_on : CanGoOn text
  pub unread : (parts : List Part) → IsReading text parts → ⊥
  pub place_is : length text ≡ place

-- what a refusal says of the text
abbrev pub IsRefusal : Text → ExprFault → Type 0
IsRefusal text (Unclosed place) = IsUnclosed text place
IsRefusal text (BadName place) = IsBadAt text place Name
IsRefusal text (BadTransform place) = IsBadAt text place Transform
IsRefusal text (NestedTransform place) = IsBadAt text place Nested
IsRefusal text Memory = Unit {0}
