-- The texts of a project file as expressions ("MSBuild properties", "Property functions", "MSBuild
-- items",
-- "Item metadata", "MSBuild transforms", "Item functions").
use Rattle.std.specs.Prelude.{
  ◌≡◌,
  ℕ,
  ◌<◌,
  Bool,
  true,
  false,
  ◌&&◌,
  ◌||◌,
  IsTrue,
  nat_le,
  ◌==◌,
  ◌⊎◌,
  List,
  [],
  ◌∷◌,
  ◌++◌,
  length,
  reverse,
  Option,
  Some,
  None,
  IsSome,
  codes,
}
use Rattle.std.specs.Str.{str_to_ascii_lowercase}
use Rattle.msb_laws.specs.Words.{Text, Name}
use Rattle.msb_expression.specs.declared.starts.Inside.{Inside}
use Rattle.msb_expression.specs.declared.starts.Inside.TheVariants.{Whole, Transform, Quoted, Loose}
use Rattle.msb_expression.specs.declared.expression.Part.{Part}
use Rattle.msb_expression.specs.declared.expression.Part.TheVariants.{
  Plain,
  Prop,
  Func,
  Meta,
  Items,
}
use Rattle.msb_expression.specs.declared.expression.Call.{Call as PropertyCall}
use Rattle.msb_expression.specs.declared.expression.Step.{Step}
use Rattle.msb_expression.specs.declared.expression.Step.TheVariants.{Transform as Transforms, Call}
use Rattle.msb_expression.specs.declared.expression.Piece.{Piece}
use Rattle.msb_expression.specs.declared.expression.Piece.TheVariants.{
  Plain as PlainPiece,
  Prop as PropPiece,
  Meta as MetaPiece,
}

-- an ASCII letter or `_`
abbrev pub is_letter : ℕ → Bool
is_letter b = (nat_le 97 b && nat_le b 122) || ((nat_le 65 b && nat_le b 90) || b == 95)

abbrev pub is_digit : ℕ → Bool
is_digit b = nat_le 48 b && nat_le b 57

-- what may follow the first letter of a name: a letter, a digit, `_` or `-`
abbrev pub is_name_byte : ℕ → Bool
is_name_byte b = is_letter b || (is_digit b || b == 45)

-- each byte passes the test
abbrev pub Every : (ℕ → Bool) → Text → Type 0
Every test [] = Unit {0}
Every test (b ∷ bs) = IsTrue (test b) × Every test bs

abbrev pub IsName : Text → Type 0
IsName [] = ⊥
IsName (b ∷ bs) = IsTrue (is_letter b) × Every is_name_byte bs

abbrev pub IsSpaces : Text → Type 0
IsSpaces = Every (λ b. b == 32)

-- a name, with spaces around it
abbrev pub IsNamed : Text → Name → Type 0
IsNamed text name =
    (before : Text) × (after : Text) × IsSpaces before × IsName name × IsSpaces after
    × (text ≡ before ++ name ++ after)

-- the text begins with the byte and a `(`
abbrev pub opens : ℕ → Text → Bool
opens mark [] = false
opens mark (b ∷ []) = false
opens mark (b ∷ c ∷ bs) = (b == mark) && (c == 40)

-- an argument of a property function without quotes has no quote, `(`, `@` or `%`
abbrev pub is_quotable : ℕ → Bool
is_quotable b = b == 39 || (b == 40 || (b == 64 || b == 37))

abbrev pub begins_quotable : Text → Bool
begins_quotable [] = false
begins_quotable (b ∷ bs) = is_quotable b

-- no plain text: a reference begins, in a transform also an `@(`, which can't stand there, and what
-- can't stand in an
-- argument without quotes
abbrev pub begins_reference : Inside → Text → Bool
begins_reference Whole bs = opens 36 bs || (opens 37 bs || opens 64 bs)
begins_reference Transform bs = opens 36 bs || (opens 37 bs || opens 64 bs)
begins_reference Quoted bs = opens 36 bs
begins_reference Loose bs = opens 36 bs || begins_quotable bs

-- no plain text: the quote that ends a text between quotes, or the `,` or `)` that ends an argument
-- without quotes
abbrev pub is_end_quote : Inside → ℕ → Bool
is_end_quote Whole b = false
is_end_quote Transform b = b == 39
is_end_quote Quoted b = b == 39
is_end_quote Loose b = b == 44 || b == 41

-- every other character is plain
abbrev pub IsPlain : Inside → Text → Type 0
IsPlain inside [] = Unit {0}
IsPlain inside (b ∷ bs) = (begins_reference inside (b ∷ bs) ≡ false)
    × (is_end_quote inside b ≡ false) × IsPlain inside bs

abbrev pub IsPlainText : Inside → Text → Type 0
IsPlainText inside text = (0 < length text) × IsPlain inside text

-- a text that is the texts of these things, one behind another
abbrev pub Joins : {A : Type 0} → (Text → A → Type 0) → Text → List A → Type 0
Joins Is text [] = text ≡ []
Joins Is text (x ∷ xs) = (front : Text) × (rest : Text) × (text ≡ front ++ rest) × Is front x
    × Joins Is rest xs

-- no two that pass the test stand side by side
abbrev pub Apart : {A : Type 0} → (A → Bool) → List A → Type 0
Apart test [] = Unit {0}
Apart test (x ∷ []) = Unit {0}
Apart test (x ∷ y ∷ ys) = ((test x && test y) ≡ false) × Apart test (y ∷ ys)

-- `$(Name)` in each text, and `%(Name)` in a transform
abbrev pub IsPiece : Inside → Text → Piece → Type 0
IsPiece inside text (PlainPiece plain) = IsPlainText inside plain × (text ≡ plain)
IsPiece inside text (PropPiece name) = (named : Text) × IsNamed named name
    × (text ≡ codes "$(" ++ named ++ codes ")")
IsPiece inside text (MetaPiece name) =
    (inside ≡ Transform) × (named : Text) × IsNamed named name
    × (text ≡ codes "%(" ++ named ++ codes ")")

abbrev pub is_plain_piece : Piece → Bool
is_plain_piece (PlainPiece plain) = true
is_plain_piece (PropPiece name) = false
is_plain_piece (MetaPiece name) = false

-- `'` text `'` behind spaces
abbrev pub IsQuoted : Inside → Text → List Piece → Type 0
IsQuoted inside text pieces =
    (before : Text) × (inner : Text) × IsSpaces before × Joins (IsPiece inside) inner pieces
    × Apart is_plain_piece pieces
    × (text ≡ before ++ codes "'" ++ inner ++ codes "'")

-- `,` and a quoted text, behind spaces
abbrev pub IsListed : Text → List Piece → Type 0
IsListed text pieces =
    (before : Text) × (quoted : Text) × IsSpaces before × IsQuoted Quoted quoted pieces
    × (text ≡ before ++ codes "," ++ quoted)

-- none, or quoted texts parted by `,`
abbrev pub IsArgs : Text → List (List Piece) → Type 0
IsArgs text [] = IsSpaces text
IsArgs text (arg ∷ args) =
    (first : Text) × (others : Text) × (after : Text) × IsQuoted Quoted first arg
    × Joins IsListed others args × IsSpaces after
    × (text ≡ first ++ others ++ after)

-- a transform, or Function `(` arguments `)`, behind spaces
abbrev pub IsAct : Text → Step → Type 0
IsAct text (Transforms pieces) = IsQuoted Transform text pieces
IsAct text (Call function args) =
    (named : Text) × (inner : Text) × IsNamed named function × IsArgs inner args
    × (text ≡ named ++ codes "(" ++ inner ++ codes ")")

-- `->` and either of these, behind spaces
abbrev pub IsStep : Text → Step → Type 0
IsStep text step = (before : Text) × (acts : Text) × IsSpaces before × IsAct acts step
    × (text ≡ before ++ codes "->" ++ acts)

-- nothing, or `,` and a quoted text
abbrev pub IsSeparator : Text → Option (List Piece) → Type 0
IsSeparator text None = text ≡ []
IsSeparator text (Some pieces) = IsListed text pieces

-- white space around an argument without quotes: a space, a tab, or the end of a line
abbrev pub is_blank : ℕ → Bool
is_blank b = b == 32 || (b == 9 || (b == 13 || b == 10))

abbrev pub begins_blank : Text → Bool
begins_blank [] = false
begins_blank (b ∷ bs) = is_blank b

abbrev pub without_front : Text → Text
without_front [] = []
without_front (b ∷ bs) = elim (is_blank b) [ true ↦ without_front bs | false ↦ b ∷ bs ]

abbrev pub without_end : Text → Text
without_end text = reverse (without_front (reverse text))

abbrev pub cut_front : Bool → Text → Text
cut_front true text = without_front text
cut_front false text = text

abbrev pub cut_end : Bool → Text → Text
cut_end true text = without_end text
cut_end false text = text

abbrev pub plain_pieces : Text → List Piece
plain_pieces [] = []
plain_pieces (b ∷ bs) = PlainPiece (b ∷ bs) ∷ []

-- a piece without the white space at its front, or at its end
abbrev pub cut_piece : (front end : Bool) → Piece → List Piece
cut_piece front end (PlainPiece plain) = plain_pieces (cut_end end (cut_front front plain))
cut_piece front end (PropPiece name) = PropPiece name ∷ []
cut_piece front end (MetaPiece name) = MetaPiece name ∷ []

abbrev pub cut_pieces : (front : Bool) → List Piece → List Piece
cut_pieces front [] = []
cut_pieces front (piece ∷ []) = cut_piece front true piece
cut_pieces front (piece ∷ next ∷ pieces) =
    cut_piece front false piece ++ cut_pieces false (next ∷ pieces)

-- without the white space around them
abbrev pub trimmed_pieces : List Piece → List Piece
trimmed_pieces pieces = cut_pieces true pieces

abbrev pub begins_space : Text → Bool
begins_space [] = false
begins_space (b ∷ bs) = b == 32

-- one or more characters without quotes, and without the white space around them
abbrev pub IsLoose : Text → List Piece → Type 0
IsLoose text pieces =
    (spaces : Text) × (inner : Text) × (read : List Piece) × (0 < length text)
    × IsSpaces spaces × (begins_space inner ≡ false) × Joins (IsPiece Loose) inner read
    × Apart is_plain_piece read
    × (trimmed_pieces read ≡ pieces) × (text ≡ spaces ++ inner)

-- a quoted text between spaces, or a text without quotes
abbrev pub IsArgument : Text → List Piece → Type 0
IsArgument text pieces =
    ((quoted : Text) × (after : Text) × IsQuoted Quoted quoted pieces × IsSpaces after
    × (text ≡ quoted ++ after))
    ⊎ IsLoose text pieces

abbrev pub IsNextArgument : Text → List Piece → Type 0
IsNextArgument text pieces =
    (argument : Text) × IsArgument argument pieces × (text ≡ codes "," ++ argument)

-- none, which spaces are too, or arguments parted by `,`
abbrev pub IsArguments : Text → List (List Piece) → Type 0
IsArguments text [] = IsSpaces text
IsArguments text (arg ∷ args) =
    (first : Text) × (others : Text) × IsArgument first arg × Joins IsNextArgument others args
    × (IsSpaces text → ⊥) × (text ≡ first ++ others)

-- nothing, or `(` arguments `)`
abbrev pub IsParenthesized : Text → Option (List (List Piece)) → Type 0
IsParenthesized text None = text ≡ []
IsParenthesized text (Some args) =
    (inner : Text) × (after : Text) × IsArguments inner args × IsSpaces after
    × (text ≡ codes "(" ++ inner ++ codes ")" ++ after)

-- a call of a property function
abbrev pub IsCall : Text → PropertyCall → Type 0
IsCall text call =
    (named : Text) × (rest : Text) × IsNamed named call.name × IsParenthesized rest call.args
    × (text ≡ named ++ rest)

abbrev pub IsNextCall : Text → PropertyCall → Type 0
IsNextCall text call = (called : Text) × IsCall called call × (text ≡ codes "." ++ called)

-- a property's name and at least one call; or `[MSBuild]::`, in whatever case, and calls, of which
-- the first has parentheses
abbrev pub IsFunction : Text → Option Name → List PropertyCall → Type 0
IsFunction text (Some name) calls =
    (named : Text) × (called : Text) × IsNamed named name × Joins IsNextCall called calls
    × (0 < length calls)
    × (text ≡ named ++ called)
IsFunction text None [] = ⊥
IsFunction text None (call ∷ calls) =
    (head : Text) × (first : Text) × (others : Text)
    × (str_to_ascii_lowercase head ≡ codes "[msbuild]::")
    × IsCall first call × IsSome call.args × Joins IsNextCall others calls
    × (text ≡ head ++ first ++ others)

abbrev pub IsPart : Text → Part → Type 0
IsPart text (Plain plain) = IsPlainText Whole plain × (text ≡ plain)
IsPart text (Prop name) = (named : Text) × IsNamed named name
    × (text ≡ codes "$(" ++ named ++ codes ")")
IsPart text (Func subject calls) =
    (function : Text) × IsFunction function subject calls
    × (text ≡ codes "$(" ++ function ++ codes ")")
IsPart text (Meta None name) = (named : Text) × IsNamed named name
    × (text ≡ codes "%(" ++ named ++ codes ")")
IsPart text (Meta (Some kind) name) =
    (first : Text) × (second : Text) × IsNamed first kind × IsNamed second name
    × (text ≡ codes "%(" ++ first ++ codes "." ++ second ++ codes ")")
IsPart text (Items kind steps separator) =
    (before : Text) × (stepped : Text) × (separated : Text) × (after : Text)
    × IsSpaces before × IsName kind × Joins IsStep stepped steps × IsSeparator separated separator
    × IsSpaces after
    × (text ≡ codes "@(" ++ before ++ kind ++ stepped ++ separated ++ after ++ codes ")")

abbrev pub is_plain : Part → Bool
is_plain (Plain plain) = true
is_plain (Prop name) = false
is_plain (Func subject calls) = false
is_plain (Meta kind name) = false
is_plain (Items kind steps separator) = false

-- the text is written so: its parts one behind another, and each plain part whole
abbrev pub IsReading : Text → List Part → Type 0
IsReading text parts = Joins IsPart text parts × Apart is_plain parts
