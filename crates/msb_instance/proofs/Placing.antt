-- What a map from names to elements holds, as targets.
use Rattle.std.proofs.Common.{
  ◌≡◌,
  ℕ,
  List,
  [],
  ◌∷◌,
  map,
  Bool,
  true,
  false,
  if◌then◌else◌,
  Result,
  Ok,
  Err,
  IfOk,
  refl,
  ap,
  ap₂,
}
use Rattle.std.specs.List.{list_any}
use Rattle.std.specs.Str.{bytes_eq}
use Rattle.indexmap.specs.IndexMap.{insert_entry}
use Rattle.build_world.specs.Elements.{At, seen_placed}
use Rattle.build_world.specs.declared.laid_out.Placed.{Placed}
use Rattle.msb_instance.specs.Targets.{Target, put, file_has_returns}
use Rattle.msb_instance.specs.Evaluated.{used, seen_target}
use Rattle.msb_instance.specs.Made.{target_in, target_seen, made_of}

put_in : (b : Bool) (e : List ℕ × Placed) (es more : List (List ℕ × Placed)) (ts : List Target)
    (placed : Placed) → map target_in more ≡ ts →
    map target_in (if b then (e.0, placed) ∷ es else e ∷ more)
    ≡ (if b then record { name = e.0; element = seen_placed placed }
    ∷ map target_in es else target_in e ∷ ts)
put_in true e es more ts placed same = refl
put_in false e es more ts placed same = ap (λ ts. target_in e ∷ ts) same

-- an insert puts the element in the place of the one of its name
pub inserted : (es : List (List ℕ × Placed)) (name : List ℕ) (placed : Placed)
    → map target_in (insert_entry bytes_eq es name placed)
    ≡ put (map target_in es) name (seen_placed placed)
inserted [] name placed = refl
inserted (e ∷ es) name placed = put_in (bytes_eq name e.0) e es
    (insert_entry bytes_eq es name placed) (put (map target_in es) name (seen_placed placed)) placed
    (inserted es name placed)

-- each target has the name and the element of its entry
pub made_names : (files : List (List ℕ)) (es : List (List ℕ × Placed))
    → map target_seen (map (made_of files) es) ≡ map target_in es
made_names files [] = refl
made_names files (e ∷ es) = ap (λ ts. target_in e ∷ ts) (made_names files es)

-- and says of its file whether it has Returns
pub made_used : (files : List (List ℕ)) (elements : List At)
    → ((file : List ℕ) → list_any (bytes_eq file) files ≡ file_has_returns elements file)
    → (es : List (List ℕ × Placed)) → map seen_target (map (made_of files) es)
    ≡ map (used elements) (map target_in es)
made_used files elements same [] = refl
made_used files elements same (e ∷ es) =
    ap₂ (λ has ts. record { name = e.0; element = seen_placed e.1; file_has_returns = has } ∷ ts)
    (same e.1.file) (made_used files elements same es)

pub if_ok : {T E : Type 0} {P Q : T → Type 0} → ((t : T) → P t → Q t) → (r : Result T E) → IfOk r P
    → IfOk r Q
if_ok f (Ok t) p = f t p
if_ok f (Err e) p = tt
