-- The events behind a place of a history, as they are looked through.
use Rattle.std.proofs.Common.{
  ◌≡◌,
  ℕ,
  zero,
  suc,
  ◌<◌,
  ◌≤◌,
  List,
  [],
  ◌∷◌,
  length,
  drop,
  take,
  get_or,
  refl,
  ap,
  arith,
}
use Rattle.build_meaning.specs.declared.event.Event.{Event}
use Rattle.build_meaning.specs.Step.{whose}
use Rattle.build_meaning.specs.History.{AreOfOthers}

pub others-none : (xs : List Event) (n id : ℕ) → AreOfOthers id (drop n (take n xs))
others-none [] zero id = tt
others-none [] (suc n) id = tt
others-none (x ∷ xs) zero id = tt
others-none (x ∷ xs) (suc n) id = others-none xs n id

-- one more event of another request
pub others-more : (xs : List Event) (n k id : ℕ) (d : Event) → n ≤ k → k < length xs
    → (whose (get_or xs k d) ≡ id → ⊥) → AreOfOthers id (drop n (take k xs))
    → AreOfOthers id (drop n (take (suc k) xs))
others-more [] n k id d le lt other h = absurd (omega arith)
others-more (x ∷ xs) zero zero id d le lt other h = (other, tt)
others-more (x ∷ xs) zero (suc k) id d le lt other h =
    (h.0, others-more xs zero k id d (omega arith) (omega arith) other h.1)
others-more (x ∷ xs) (suc n) zero id d le lt other h = absurd (omega arith)
others-more (x ∷ xs) (suc n) (suc k) id d le lt other h = others-more xs n k id d (omega arith)
    (omega arith) other h

pub take-whole : {X : Type 0} (xs : List X) (k : ℕ) → length xs ≤ k → take k xs ≡ xs
take-whole [] zero le = refl
take-whole [] (suc k) le = refl
take-whole (x ∷ xs) zero le = absurd (omega arith)
take-whole (x ∷ xs) (suc k) le = ap (λ l. x ∷ l) (take-whole xs k (omega arith))
