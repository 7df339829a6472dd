-- What a fault of a part is for the whole.
use Rattle.std.proofs.Common.{◌≡◌, Result, Ok, Err, ap}
use Rattle.msb_laws.specs.Results.{map_ok}

-- what is made of a value has no fault of its own
pub unmapped : {X Y E : Type 0} (f : X → Y) (r : Result X E) (e : E) → map_ok f r ≡ Err e
    → r ≡ Err e
unmapped f (Ok x) e is = cc
unmapped {X} {Y} {E} f (Err d) e is =
    let same : d ≡ e = cc in
    ap (λ z. Err z) same

pub remapped : {X Y Z E : Type 0} (f : X → Y) (g : X → Z) (r : Result X E) (e : E)
    → map_ok f r ≡ Err e → map_ok g r ≡ Err e
remapped f g r e is = ap (map_ok g) (unmapped f r e is)
