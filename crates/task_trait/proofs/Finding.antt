-- Searches in lists that are seen by their elements' values.
use Rattle.std.proofs.Common.{
  ◌≡◌,
  ℕ,
  suc,
  ◌+◌,
  ◌<◌,
  List,
  [],
  ◌∷◌,
  length,
  Bool,
  true,
  false,
  cond,
  not,
  ◌||◌,
  Option,
  Some,
  None,
  option_map,
  MatchOption,
  Bor,
  map,
  refl,
  arith,
}
use Rattle.std.specs.List.{list_any, position_or_len, before_first, after_first}
use Rattle.task_trait.specs.Params.{is_equals, cut_at_equals}

pub any_of_map : {X Y : Type 0} (test : Y → Bool) (f : X → Y) (xs : List X)
    → list_any test (map f xs) ≡ list_any (λ x. test (f x)) xs
any_of_map test f [] = refl
any_of_map test f (x ∷ xs) = rw (any_of_map test f xs) refl

-- a test that passes nowhere, and one that passes somewhere
pub any_nowhere : {X : Type 0} (test : X → Bool) (xs : List X) → position_or_len test xs ≡ length xs
    → list_any test xs ≡ false
any_nowhere test [] none = refl
any_nowhere test (x ∷ xs) none = by (test x) none (any_nowhere test xs)
  where
    by : (passes : Bool) → cond (not passes) (1 + position_or_len test xs) 0 ≡ suc (length xs)
        → (position_or_len test xs ≡ length xs → list_any test xs ≡ false)
        → (passes || list_any test xs) ≡ false
    by true e rest = absurd (omega (arith, e))
    by false e rest = rest (omega (arith, e))

pub any_somewhere : {X : Type 0} (test : X → Bool) (xs : List X)
    → position_or_len test xs < length xs → list_any test xs ≡ true
any_somewhere test [] some = absurd (omega (arith, some))
any_somewhere test (x ∷ xs) some = by (test x) some (any_somewhere test xs)
  where
    by : (passes : Bool) → cond (not passes) (1 + position_or_len test xs) 0 < suc (length xs)
        → (position_or_len test xs < length xs → list_any test xs ≡ true)
        → (passes || list_any test xs) ≡ true
    by true l rest = refl
    by false l rest = rest (omega (arith, l))

-- a text that is cut at its first `=`, or has none
pub cut_is : (text : List ℕ) (r : Option (Bor (List ℕ) × Bor (List ℕ)))
    → MatchOption r (position_or_len is_equals text ≡ length text)
    (λ x. (position_or_len is_equals text < length text) × (x.0.now ≡ before_first is_equals text)
    × (x.1.now ≡ after_first is_equals text))
    → option_map (λ p. (p.0.now, p.1.now)) r ≡ cut_at_equals text
cut_is text None none = rw (any_nowhere is_equals text none) refl
cut_is text (Some x) parts = rw (any_somewhere is_equals text parts.0, parts.1, parts.2) refl
