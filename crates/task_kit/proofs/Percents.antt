-- A text in which each `%` is written by its number.
use Rattle.std.proofs.Common.{
  ◌≡◌,
  ◌≢◌,
  ℕ,
  ◌+◌,
  ◌<◌,
  ◌==◌,
  List,
  [],
  ◌∷◌,
  ◌++◌,
  length,
  get_or,
  codes,
  Option,
  Some,
  None,
  MatchOption,
  Bor,
  false,
  refl,
  sym,
  ap,
  ◌∙◌,
  append_assoc,
  arith,
}
use Rattle.std.proofs.lemmas.Bool.Decides.{nat_tests}
use Rattle.std.proofs.lemmas.Grind.{common_steps, flat_map-append}
use Rattle.task_kit.specs.Included.{percent_of, pattern_text}

-- no byte of the text is `%`
abbrev pub HasNone : List ℕ → Type 0
HasNone text = (i : ℕ) → i < length text → get_or text i 0 ≢ 37

differs : (x : ℕ) (xs : List ℕ) → HasNone (x ∷ xs) → (x == 37) ≡ false
differs x xs none = let ne : x ≢ 37 = none 0 (grind (arith, common_steps)) in grind
    (arith, nat_tests)

later : (x : ℕ) (xs : List ℕ) → HasNone (x ∷ xs) → HasNone xs
later x xs none i within = let k = none (i + 1) (grind (arith, common_steps)) in grind
    (arith, common_steps)

plain : (text : List ℕ) → HasNone text → pattern_text text ≡ text
plain [] none = refl
plain (x ∷ xs) none = rw (differs x xs none) (ap (λ t. x ∷ t) (plain xs (later x xs none)))

pub cut_is : (text : List ℕ) (r : Option (Bor (List ℕ) × Bor (List ℕ)))
    → MatchOption r (HasNone text) (λ x. (text ≡ x.0.now ++ (37 ∷ x.1.now)) × HasNone x.0.now)
    → MatchOption r (pattern_text text ≡ text)
    (λ parts. pattern_text text ≡ parts.0.now ++ codes "%25" ++ pattern_text parts.1.now)
cut_is text None none = plain text none
cut_is text (Some x) p =
    ap pattern_text p.0 ∙ flat_map-append percent_of x.0.now (37 ∷ x.1.now)
    ∙ sym (append_assoc (pattern_text x.0.now) (codes "%25") (pattern_text x.1.now))
    ∙ ap (λ t. t ++ codes "%25" ++ pattern_text x.1.now) (plain x.0.now p.1)

-- one turn of a loop that reads up to the next `%`
pub goes_on : (whole next longer part rest behind all : List ℕ) → next ≡ whole ++ part
    → longer ≡ next ++ codes "%25" → rest ≡ part ++ codes "%25" ++ behind → whole ++ rest ≡ all
    → longer ++ behind ≡ all
goes_on whole next longer part rest behind all one two cut so_far =
    ap (λ t. t ++ behind) (two ∙ ap (λ t. t ++ codes "%25") one
    ∙ append_assoc whole part (codes "%25")) ∙ append_assoc whole (part ++ codes "%25") behind
    ∙ ap (λ t. whole ++ t) (sym cut) ∙ so_far
