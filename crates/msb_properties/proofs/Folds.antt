-- Steps one after another, up to the first fault.
use Rattle.std.proofs.Common.{◌≡◌, List, [], ◌∷◌, ◌++◌, map, Result, Ok, Err, refl}
use Rattle.msb_laws.specs.Results.{and_then, fold_ok}

and_then_same : {X Y E : Type 0} (r : Result X E) (f g : X → Result Y E) → ((x : X) → f x ≡ g x)
    → and_then r f ≡ and_then r g
and_then_same (Ok x) f g same = same x
and_then_same (Err e) f g same = refl

-- over the images of the entries
pub fold_map : {S X Y E : Type 0} (step : S → Y → Result S E) (f : X → Y) (s : S) (xs : List X)
    → fold_ok step s (map f xs) ≡ fold_ok (λ t x. step t (f x)) s xs
fold_map step f s [] = refl
fold_map step f s (x ∷ xs) = and_then_same (step s (f x)) (λ t. fold_ok step t (map f xs))
    (λ t. fold_ok (λ u y. step u (f y)) t xs) (λ t. fold_map step f t xs)

last_step : {S E : Type 0} (r : Result S E) → and_then r (λ t. Ok t) ≡ r
last_step (Ok s) = refl
last_step (Err e) = refl

and_then_later : {S E : Type 0} (r : Result S E) (f g k : S → Result S E)
    → ((t : S) → f t ≡ and_then (g t) k) → and_then r f ≡ and_then (and_then r g) k
and_then_later (Ok s) f g k same = same s
and_then_later (Err e) f g k same = refl

-- one step more
pub fold_more : {S X E : Type 0} (step : S → X → Result S E) (s : S) (xs : List X) (x : X)
    → fold_ok step s (xs ++ x ∷ []) ≡ and_then (fold_ok step s xs) (λ t. step t x)
fold_more step s [] x = last_step (step s x)
fold_more step s (y ∷ ys) x = and_then_later (step s y) (λ t. fold_ok step t (ys ++ x ∷ []))
    (λ t. fold_ok step t ys) (λ t. step t x) (λ t. fold_more step t ys x)
