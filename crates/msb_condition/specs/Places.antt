-- The tokens of a text from a place on, as the code finds them.
use Rattle.std.specs.Prelude.{
  ◌≡◌,
  ℕ,
  ◌+◌,
  ◌-◌,
  ◌<◌,
  List,
  [],
  ◌∷◌,
  length,
  take,
  drop,
  Option,
  Some,
  None,
}
use Rattle.std.specs.Str.{IsCharBoundary}
use Rattle.msb_laws.specs.Words.{Text}
use Rattle.msb_condition.specs.declared.condition.Comparison.TheVariants.{Less, Greater}
use Rattle.msb_condition.specs.declared.extents.Inside.TheVariants as inside
use Rattle.msb_condition.specs.declared.tokens.Kind.{Kind}
use Rattle.msb_condition.specs.declared.tokens.Kind.TheVariants.{
  Compare,
  Word,
  Quoted,
  Unended,
  Reference,
}
use Rattle.msb_condition.specs.declared.tokens.Token as code
use Rattle.msb_condition.specs.Extents.{text_len}
use Rattle.msb_condition.specs.Tokens.{Token, tokens_from}

abbrev pub token_in : Text → code.Token → Token
token_in text token = record {
  kind = token.kind;
  place = token.start;
  bytes = take (token.end - token.start)
      (drop token.start text);
}

abbrev pub tokens_at : ℕ → Text → List Token
tokens_at place text = tokens_from place 0 (drop place text)

-- the first token behind the place
abbrev pub IsNext : Text → ℕ → Option code.Token → Type 0
IsNext text at (Some token) = tokens_at at text ≡ token_in text token ∷ tokens_at token.end text
IsNext text at None = tokens_at at text ≡ []

-- what follows the first byte of a token has the bytes that its kind takes
abbrev pub Fits : Kind → Text → Type 0
Fits Quoted rest = text_len inside.Text rest < length rest
Fits Reference rest = 0 < length rest
Fits (Compare Less) rest = Unit {0}
Fits (Compare Greater) rest = Unit {0}
Fits (Compare _) rest = 0 < length rest
Fits _ rest = Unit {0}

-- the text can be cut at the ends of what a token is read of
abbrev pub IsCutBy : Kind → Text → ℕ → ℕ → Type 0
IsCutBy Word text start end = (start < end) × IsCharBoundary text start × IsCharBoundary text end
IsCutBy Quoted text start end = (start + 1 < end) × IsCharBoundary text (start + 1)
    × IsCharBoundary text (end - 1)
IsCutBy Unended text start end = (start < end) × IsCharBoundary text (start + 1)
    × (end ≡ length text)
IsCutBy Reference text start end = (start < end) × IsCharBoundary text start
    × IsCharBoundary text end
IsCutBy _ text start end = Unit {0}

abbrev pub IsCut : Text → code.Token → Type 0
IsCut text token = IsCutBy token.kind text token.start token.end
