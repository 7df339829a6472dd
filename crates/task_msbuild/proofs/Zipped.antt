-- The end of a loop over two lists at once.
use Rattle.std.proofs.Common.{
  ◌≡◌,
  ◌≤◌,
  ◌⊎◌,
  ℕ,
  List,
  [],
  ◌∷◌,
  length,
  min,
  drop,
  refl,
  ap,
  ◌∙◌,
  inl,
  inr,
  arith,
}
use Rattle.std.specs.List.{zip}
use Rattle.std.proofs.lemmas.Grind.{common_steps}

zip-no_second : {A B : Type 0} (xs : List A) → zip {X = B} xs [] ≡ []
zip-no_second [] = refl
zip-no_second (x ∷ xs) = refl

past : {X : Type 0} (xs : List X) (n : ℕ) → length xs ≤ n → drop n xs ≡ []
past xs n h = grind (arith, common_steps)

shorter : (n a b : ℕ) → n ≡ min a b → (a ≤ n) ⊎ (b ≤ n)
shorter n a b e = grind arith

pub zip-past : {A B : Type 0} (n : ℕ) (xs : List A) (ys : List B) → n ≡ min (length xs) (length ys)
    → zip (drop n xs) (drop n ys) ≡ []
zip-past n xs ys e = elim (shorter n (length xs) (length ys) e) [
  | inl h ↦ ap (λ l. zip l (drop n ys)) (past xs n h)
  | inr h ↦ ap (zip (drop n xs)) (past ys n h) ∙ zip-no_second (drop n xs)
]
