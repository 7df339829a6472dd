-- Tuples are found by their folded texts.
use Rattle.std.proofs.Common.{
  ◌≡◌,
  ℕ,
  ◌+◌,
  Bool,
  true,
  false,
  not,
  ◌&&◌,
  ◌||◌,
  List,
  [],
  ◌∷◌,
  ◌++◌,
  map,
  refl,
  sym,
  ap,
  ap₂,
  ◌∙◌,
  cond,
  if◌then◌else◌,
}
use Rattle.std.specs.List.{list_any, position_or_len}
use Rattle.std.specs.Str.{bytes_eq}
use Rattle.std.specs.Cmp.Lexicographic.{pointwise}
use Rattle.msb_values.proofs.Folding.{folds_as_compared}
use Rattle.msb_batching.specs.Buckets.{is_same_tuple}
use Rattle.msb_batching.specs.Numbers.{folded_tuple}

same_folded : (a b : List (List ℕ)) → pointwise bytes_eq (folded_tuple a) (folded_tuple b)
    ≡ is_same_tuple a b
same_folded [] [] = refl
same_folded [] (y ∷ ys) = refl
same_folded (x ∷ xs) [] = refl
same_folded (x ∷ xs) (y ∷ ys) = ap₂ ◌&&◌ (folds_as_compared x y) (same_folded xs ys)

-- a test of what is seen of each
any-map : {X Y : Type 0} (p : Y → Bool) (f : X → Y) (xs : List X)
    → list_any (λ x. p (f x)) xs ≡ list_any p (map f xs)
any-map p f [] = refl
any-map p f (x ∷ xs) = ap (λ t. p (f x) || t) (any-map p f xs)

position-map : {X Y : Type 0} (p : Y → Bool) (f : X → Y) (xs : List X)
    → position_or_len (λ x. p (f x)) xs ≡ position_or_len p (map f xs)
position-map p f [] = refl
position-map p f (x ∷ xs) = ap (λ n. cond (not (p (f x))) (1 + n) 0) (position-map p f xs)

abbrev tests : List (List ℕ) → List (List ℕ) → Bool
tests key other = pointwise bytes_eq key other

module _ {K : Type 0} (view : K → List (List ℕ)) (tuple key : List (List ℕ)) (keys : List K)
    (tuples : List (List (List ℕ)))
    (folds : key ≡ folded_tuple tuple) (keyed : map view keys ≡ map folded_tuple tuples) where
  same_test : (other : List (List ℕ)) → tests key (folded_tuple other) ≡ is_same_tuple tuple other
  same_test other = ap (λ k. tests k (folded_tuple other)) folds ∙ same_folded tuple other

  pub is_there : list_any (λ k. tests key (view k)) keys ≡ list_any (is_same_tuple tuple) tuples
  is_there =
      any-map (tests key) view keys ∙ ap (list_any (tests key)) keyed
      ∙ sym (any-map (tests key) folded_tuple tuples)
      ∙ ap (λ (p : List (List ℕ) → Bool). list_any p tuples) (λ i other. same_test other i)

  pub place_is : position_or_len (λ k. tests key (view k)) keys
      ≡ position_or_len (is_same_tuple tuple) tuples
  place_is =
      position-map (tests key) view keys ∙ ap (position_or_len (tests key)) keyed
      ∙ sym (position-map (tests key) folded_tuple tuples)
      ∙ ap (λ (p : List (List ℕ) → Bool). position_or_len p tuples) (λ i other. same_test other i)

pub spelled_if : (there : Bool) (tuples : List (List (List ℕ))) (tuple : List (List ℕ))
    → (if not there then tuples ++ tuple ∷ [] else tuples)
    ≡ (if there then tuples else tuples ++ tuple ∷ [])
spelled_if true tuples tuple = refl
spelled_if false tuples tuple = refl
