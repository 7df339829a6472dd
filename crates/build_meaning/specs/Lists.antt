-- Lists by place.
use Rattle.std.specs.Prelude.{ℕ, zero, suc, List, [], ◌∷◌, Option, None, Some}

-- what stands at a place, from 0
abbrev pub at : {X : Type 0} → List X → ℕ → Option X
at [] i = None
at (x ∷ xs) zero = Some x
at (x ∷ xs) (suc i) = at xs i

-- y put in place of what stands there
abbrev pub put : {X : Type 0} → List X → ℕ → X → List X
put [] i y = []
put (x ∷ xs) zero y = y ∷ xs
put (x ∷ xs) (suc i) y = x ∷ put xs i y

-- a number for each entry, from n on
abbrev pub numbered_from : {X : Type 0} → ℕ → List X → List ℕ
numbered_from n [] = []
numbered_from n (x ∷ xs) = n ∷ numbered_from (suc n) xs

-- the entries of two lists, place by place
abbrev pub Paired : {X Y : Type 0} → (X → Y → Type 0) → List X → List Y → Type 0
Paired S [] [] = Unit {0}
Paired S (x ∷ xs) (y ∷ ys) = S x y × Paired S xs ys
Paired S xs ys = ⊥
