-- Items spread over the lists of their tuples are what each tuple keeps.
use Rattle.std.proofs.Common.{
  ◌≡◌,
  ℕ,
  zero,
  suc,
  ◌<◌,
  List,
  [],
  ◌∷◌,
  ◌++◌,
  length,
  get_or,
  drop,
  min,
  refl,
  ap,
  arith,
}
use Rattle.std.proofs.Math.ListN.{set}
use Rattle.std.proofs.lemmas.List.{drop_all}
use Rattle.msb_values.specs.declared.item.Item.{Item}
use Rattle.msb_batching.specs.declared.reference.Reference.{Reference}
use Rattle.msb_batching.specs.Buckets.{values_of}
use Rattle.msb_batching.specs.Numbers.{put_at}

pub put_in : (n : ℕ) (lists : List (List Item)) (list : List Item) (item : Item) → n < length lists
    → list ≡ get_or lists n list → set lists n (list ++ item ∷ []) ≡ put_at n item lists
put_in n [] list item lt e = absurd (omega arith)
put_in zero (first ∷ lists) list item lt e = ap (λ l. (l ++ item ∷ []) ∷ lists) e
put_in (suc n) (first ∷ lists) list item lt e = ap (λ ls. first ∷ ls)
    (put_in n lists list item (omega arith) e)

pub put_out : (n : ℕ) (lists : List (List Item)) (item : Item) → (n < length lists → ⊥)
    → put_at n item lists ≡ lists
put_out n [] item over = refl
put_out zero (first ∷ lists) item over = absurd (over (omega arith))
put_out (suc n) (first ∷ lists) item over = ap (λ ls. first ∷ ls)
    (put_out n lists item (λ lt. over (omega arith)))

-- past the shorter of two lists
pub values_end : (n : ℕ) (references : List Reference) (tuple : List (List ℕ))
    → n ≡ min (length references) (length tuple) → values_of (drop n references) (drop n tuple) ≡ []
values_end n [] tuple e = ap (λ rs. values_of rs (drop n tuple)) (drop_all n [] (omega arith))
values_end zero (reference ∷ references) [] e = refl
values_end zero (reference ∷ references) (value ∷ tuple) e = absurd (omega arith)
values_end (suc n) (reference ∷ references) [] e = absurd (omega arith)
values_end (suc n) (reference ∷ references) (value ∷ tuple) e = values_end n references tuple
    (omega arith)
