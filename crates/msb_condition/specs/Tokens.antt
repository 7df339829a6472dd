-- The tokens of a condition, with spaces, tabs, CR and LF between them.
use Rattle.std.specs.Prelude.{
  ℕ,
  suc,
  zero,
  ◌+◌,
  Bool,
  true,
  false,
  ◌||◌,
  ◌==◌,
  nat_lt,
  nat_le,
  ◌&&◌,
  List,
  [],
  ◌∷◌,
  length,
  take,
  drop,
  codes,
  if◌then◌else◌,
}
use Rattle.std.specs.List.{prefix_len, common_prefix_len}
use Rattle.std.specs.Char.{eq_ignore_ascii_case}
use Rattle.std.specs.Str.{str_eq_ignore_ascii_case}
use Rattle.msb_laws.specs.Words.{Text}
use Rattle.msb_condition.specs.declared.condition.Comparison.TheVariants.{
  Equal,
  NotEqual,
  Less,
  Greater,
  LessOrEqual,
  GreaterOrEqual,
}
use Rattle.msb_condition.specs.declared.tokens.Kind.{Kind}
use Rattle.msb_condition.specs.declared.tokens.Kind.TheVariants.{
  Bang,
  Equals,
  Compare,
  Open,
  Close,
  Word,
  Quoted,
  Unended,
  Reference,
  Sign,
  Other,
}
use Rattle.msb_condition.specs.declared.extents.Inside.TheVariants as inside
use Rattle.msb_condition.specs.Extents.{text_len, reference_len}

-- its kind, its place in the text, and its bytes
pub record Token : Type 0 where
  pub kind : Kind
  pub place : ℕ
  pub bytes : Text

abbrev pub is_space : ℕ → Bool
is_space b = b == 32 || b == 9 || b == 13 || b == 10

-- a letter, a digit, `_`, `.`, `+` or `-`
abbrev pub is_word_byte : ℕ → Bool
is_word_byte b =
    (nat_le 97 b && nat_le b 122) || (nat_le 65 b && nat_le b 90) || (nat_le 48 b && nat_le b 57)
    || b == 95 || b == 46 || b == 43 || b == 45

abbrev pub begins_with : (ℕ → Bool) → Text → Bool
begins_with test [] = false
begins_with test (b ∷ bs) = test b

abbrev pub begins : ℕ → Text → Bool
begins byte text = begins_with (λ b. b == byte) text

-- of two tokens, the one that the next byte belongs to
abbrev pub joined : ℕ → Kind → Kind → Text → Kind
joined byte with_it without rest = if begins byte rest then with_it else without

abbrev pub quoted_kind : Text → Kind
quoted_kind rest = if nat_lt (text_len inside.Text rest) (length rest) then Quoted else Unended

-- what begins with the byte, by what follows
abbrev pub kind_of : ℕ → Text → Kind
kind_of b rest =
    if is_word_byte b then Word else
    if b == 39 then quoted_kind rest else
    if b == 40 then Open else
    if b == 41 then Close else
    if b == 33 then joined 61 (Compare NotEqual) Bang rest else
    if b == 61 then joined 61 (Compare Equal) Equals rest else
    if b == 60 then joined 61 (Compare LessOrEqual) (Compare Less) rest else
    if b == 62 then joined 61 (Compare GreaterOrEqual) (Compare Greater) rest else
    if b == 36 || b == 37 || b == 64 then joined 40 Reference Sign rest else Other

-- how many bytes it has behind its first
abbrev pub more_of : Kind → Text → ℕ
more_of Word rest = prefix_len is_word_byte rest
more_of Quoted rest = text_len inside.Text rest + 1
more_of Unended rest = length rest
more_of Reference rest = reference_len (inside.Reference 0) (drop 1 rest) + 1
more_of (Compare Less) rest = 0
more_of (Compare Greater) rest = 0
more_of (Compare _) rest = 1
more_of _ rest = 0

abbrev pub size_of : ℕ → Text → ℕ
size_of b rest = more_of (kind_of b rest) rest

abbrev pub token_of : ℕ → ℕ → Text → Token
token_of place b rest = record
    { kind = kind_of b rest; place = place; bytes = b ∷ take (size_of b rest) rest }

-- the tokens of a text that begins at a place, behind so many bytes of the token before
abbrev pub tokens_from : (place skipped : ℕ) → Text → List Token
tokens_from place skipped [] = []
tokens_from place (suc skipped) (b ∷ bs) = tokens_from (place + 1) skipped bs
tokens_from place zero (b ∷ bs) = elim (is_space b) [
  | true ↦ tokens_from (place + 1) 0 bs
  | false ↦ token_of place b bs ∷ tokens_from (place + 1) (size_of b bs) bs
]

abbrev pub tokens_of : Text → List Token
tokens_of text = tokens_from 0 0 text

-- Words and functions are without case.
abbrev pub is_and : Text → Bool
is_and word = str_eq_ignore_ascii_case word (codes "and")

abbrev pub is_or : Text → Bool
is_or word = str_eq_ignore_ascii_case word (codes "or")

-- how many bytes of a word begin `and` or `or`
abbrev pub keyword_len : Text → ℕ
keyword_len word = common_prefix_len eq_ignore_ascii_case word (codes "and")
    + common_prefix_len eq_ignore_ascii_case word (codes "or")
