-- Each of some things once, at the place of the first.
use Rattle.std.specs.Prelude.{Bool, not, List, [], ◌∷◌, filter}

abbrev pub distinct : {X : Type 0} → (X → X → Bool) → List X → List X
distinct same [] = []
distinct same (x ∷ xs) = x ∷ filter (λ y. not (same y x)) (distinct same xs)
