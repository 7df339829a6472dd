-- Values that may be faults, from the left.
use Rattle.std.specs.Prelude.{List, [], ◌∷◌, Result, Ok, Err}

-- what comes of a value, or its fault
abbrev pub and_then : {X Y E : Type 0} → Result X E → (X → Result Y E) → Result Y E
and_then (Ok x) next = next x
and_then (Err fault) next = Err fault

abbrev pub map_ok : {X Y E : Type 0} → (X → Y) → Result X E → Result Y E
map_ok f (Ok x) = Ok (f x)
map_ok f (Err fault) = Err fault

-- all the values, or the first fault
abbrev pub all_ok : {X Y E : Type 0} → (X → Result Y E) → List X → Result (List Y) E
all_ok f [] = Ok []
all_ok f (x ∷ xs) = and_then (f x) (λ y. map_ok (λ ys. y ∷ ys) (all_ok f xs))

-- a step after another, each from where the one before it has led, up to the first fault
abbrev pub fold_ok : {S X E : Type 0} → (S → X → Result S E) → S → List X → Result S E
fold_ok step s [] = Ok s
fold_ok step s (x ∷ xs) = and_then (step s x) (λ next. fold_ok step next xs)
