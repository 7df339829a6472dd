-- Texts that are cut at their first `=`, or have none.
use Rattle.std.proofs.Common.{
  ◌≡◌,
  ℕ,
  List,
  [],
  ◌∷◌,
  ◌++◌,
  ◌==◌,
  length,
  arith,
  Option,
  Some,
  None,
  MatchOption,
  Bor,
  Bool,
  true,
  false,
  refl,
  sym,
  ap,
  ◌∙◌,
}
use Rattle.std.specs.Prelude.{option_map, not}
use Rattle.std.proofs.lemmas.Bool.Decides.{nat_tests}
use Rattle.clap.specs.Lexer.{long_of}
use Rattle.clap.proofs.CutLemmas.{
  Lacks,
  list_any-Lacks,
  list_any-at,
  before_first-at,
  after_first-at,
}
use Rattle.msb_words.specs.Given.{option_in, option_of}
use Rattle.msb_words.specs.Values.{cut_at_equals}
use Rattle.msb_words.specs.Words.{is_option_word}

pub cut_is : (text : List ℕ) (r : Option (Bor (List ℕ) × Bor (List ℕ)))
    → MatchOption r (Lacks 61 text) (λ x. (text ≡ x.0.now ++ (61 ∷ x.1.now)) × Lacks 61 x.0.now)
    → option_map (λ p. (p.0.now, p.1.now)) r ≡ cut_at_equals text
cut_is text None lacks = sym (rw (list_any-Lacks 61 text lacks) refl)
cut_is text (Some x) parts = sym
    (ap cut_at_equals parts.0
    ∙ rw (
      list_any-at 61 x.0.now x.1.now,
      before_first-at 61 x.0.now x.1.now parts.1,
      after_first-at
          61 x.0.now x.1.now parts.1,
    ) refl)

-- a text behind `--` without `=` is an option's name, unless it is empty
pub no_equals : (text : List ℕ) → Lacks 61 text
    → not (length text == 0) ≡ is_option_word (option_in text)
no_equals [] lacks = refl
no_equals (b ∷ bs) lacks = rw (list_any-Lacks 61 (b ∷ bs) lacks) (grind (arith, nat_tests))

-- a parse cuts an option's word in the same way
pub same_cut : (word : List ℕ) → long_of word ≡ option_of word
same_cut [] = refl
same_cut (a ∷ []) = one (a == 45) refl
  where
    one : (p : Bool) → (a == 45) ≡ p → long_of (a ∷ []) ≡ None
    one true is = rw (is) refl
    one false is = rw (is) refl
same_cut (a ∷ b ∷ []) = two (a == 45) (b == 45) refl refl
  where
    two : (p q : Bool) → (a == 45) ≡ p → (b == 45) ≡ q
        → long_of (a ∷ b ∷ []) ≡ option_of (a ∷ b ∷ [])
    two true true is also = rw (is, also) refl
    two true false is also = rw (is, also) refl
    two false q is also = rw (is) refl
same_cut (a ∷ b ∷ c ∷ cs) = more (a == 45) (b == 45) refl refl
  where
    more : (p q : Bool) → (a == 45) ≡ p → (b == 45) ≡ q
        → long_of (a ∷ b ∷ c ∷ cs) ≡ option_of (a ∷ b ∷ c ∷ cs)
    more true true is also = rw (is, also) refl
    more true false is also = rw (is, also) refl
    more false q is also = rw (is) refl
