-- The rows of targets that the code has made.
use Rattle.std.proofs.Common.{◌≡◌, List, [], ◌∷◌, map, Result, Ok, Err, refl, ap}
use Rattle.msb_laws.specs.Results.{and_then, map_ok, all_ok}
use Rattle.build_world.specs.declared.instance.UsedTarget.{UsedTarget}
use Rattle.element_texts.specs.Contexts.{ElementContext}
use Rattle.msb_instance.specs.Targets.{rows_of}
use Rattle.msb_instance.specs.Made.{target_seen, row_for}

pub rows_seen : (p : ElementContext) (ts : List UsedTarget)
    → rows_of p (map target_seen ts) ≡ all_ok (row_for p) ts
rows_seen p [] = refl
rows_seen p (t ∷ ts) = ap
    (λ rows. and_then (row_for p t) (λ row. map_ok (λ more. row ∷ more) rows))
    (rows_seen p ts)

pub map_ok-same : {X E : Type 0} (r : Result X E) → map_ok (λ x. x) r ≡ r
map_ok-same (Ok x) = refl
map_ok-same (Err e) = refl
