-- Which texts are truth values. (MSBuild conditions.)
use Rattle.std.specs.Prelude.{
  List,
  [],
  ◌∷◌,
  Bool,
  true,
  false,
  Option,
  Some,
  None,
  codes,
  if◌then◌else◌,
}
use Rattle.std.specs.List.{list_any}
use Rattle.msb_laws.specs.Words.{Text}
use Rattle.msb_values.specs.Same.{is_same_text}

abbrev pub is_one_of : List Text → Text → Bool
is_one_of words text = list_any (λ word. is_same_text text word) words

abbrev pub true_words : List Text
true_words = codes "true" ∷ codes "on" ∷ codes "yes" ∷ codes "!false" ∷ codes "!off" ∷ codes "!no"
    ∷ []

abbrev pub false_words : List Text
false_words = codes "false" ∷ codes "off" ∷ codes "no" ∷ codes "!true" ∷ codes "!on" ∷ codes "!yes"
    ∷ []

-- the truth value that a text is, without case
abbrev pub truth_of : Text → Option Bool
truth_of text = if is_one_of true_words text then Some true else if is_one_of false_words text then
    Some false else None
