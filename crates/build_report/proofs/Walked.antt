-- A loop that writes something of each entry of a list, by its place.
use Rattle.std.proofs.Common.{
  ◌≡◌,
  ℕ,
  ◌+◌,
  List,
  ◌∷◌,
  ◌++◌,
  drop,
  Some,
  refl,
  sym,
  ap,
  ◌∙◌,
  append_assoc,
  add-one,
  drop-cons,
}
use Rattle.std.specs.List.{flat_map, slice_get}
use Rattle.std.proofs.lemmas.Option.{get_or_from_slice_get, slice_get_within}

pub entry_written : {X : Type 0} (f : X → List ℕ) (xs : List X) (i : ℕ) (x : X)
    (before after all : List ℕ) → slice_get xs i ≡ Some x → after ≡ before ++ f x
    → before ++ flat_map f (drop i xs) ≡ all → after ++ flat_map f (drop (i + 1) xs) ≡ all
entry_written f xs i x before after all here is so_far =
    let rest : drop i xs ≡ x ∷ drop (i + 1) xs = rw (
      add-one,
      drop-cons xs i x (slice_get_within xs i x here),
      get_or_from_slice_get xs i x x here,
    ) refl in
    ap (λ t. t ++ flat_map f (drop (i + 1) xs)) is
    ∙ (append_assoc before (f x) _ ∙ (sym (ap (λ ys. before ++ flat_map f ys) rest) ∙ so_far))
