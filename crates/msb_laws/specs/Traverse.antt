-- A function that may have no answer, over a list: all of its answers, or none.
use Rattle.std.specs.Prelude.{List, [], ◌∷◌, Option, Some, option_map, option_and_then}

abbrev pub traverse : {A B : Type 0} → (A → Option B) → List A → Option (List B)
traverse f [] = Some []
traverse f (x ∷ xs) = option_and_then (λ y. option_map (λ ys. y ∷ ys) (traverse f xs)) (f x)
