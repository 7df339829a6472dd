-- A search for a fit, which keeps only its last gap open.
use Rattle.std.specs.Prelude.{
  ◌≡◌,
  ℕ,
  zero,
  suc,
  ◌+◌,
  ◌-◌,
  ◌*◌,
  ◌≤◌,
  Bool,
  true,
  false,
  ◌||◌,
  List,
  [],
  ◌∷◌,
  ◌++◌,
  length,
  drop,
}
use Rattle.std.specs.List.{list_all}
use Rattle.msb_glob.specs.Tokens.{Token, gap, one, some_tail, fits}

abbrev pub is_gap : {X : Type 0} → Token X → Bool
is_gap gap = true
is_gap (one passes) = false

abbrev pub is_one : {X : Type 0} → Token X → Bool
is_one gap = false
is_one (one passes) = true

-- the test holds of what is left behind one entry or more
abbrev pub later_tail : {X : Type 0} → (List X → Bool) → List X → Bool
later_tail holds [] = false
later_tail holds (x ∷ xs) = some_tail holds xs

-- the last gap, which ends ahead of token number `star`, can take one more entry or more; 0 is none
abbrev pub fits_again : {X : Type 0} → List (Token X) → ℕ → List X → Bool
fits_again tokens zero from = false
fits_again tokens (suc n) from = later_tail (fits (drop (suc n) tokens)) from

-- the tokens from `at` stand against `rest`; those since the last gap have taken one entry each of
-- `from`
pub record Searching {X : Type 0} (tokens : List (Token X)) (entries : List X) (at : ℕ)
    (rest : List X) (star : ℕ) (from : List X) : Type 0 where
  pub in_range : at ≤ length tokens
  pub behind_star : star ≤ at
  pub since : List (Token X)
  pub since_is : drop star tokens ≡ since ++ drop at tokens
  pub since_ones : list_all is_one since ≡ true
  pub rest_is : rest ≡ drop (length since) from
  pub whole : fits tokens entries ≡ (fits (drop at tokens) rest || fits_again tokens star from)

-- what is left to try
abbrev pub effort : {X : Type 0} → List (Token X) → ℕ → List X → ℕ
effort tokens at from = length from * (length tokens + 1) + (length tokens - at)
