-- A loop over entries of which each gives a list.
use Rattle.std.proofs.Common.{
  ◌≡◌,
  List,
  [],
  ◌∷◌,
  ◌++◌,
  Result,
  Ok,
  Err,
  refl,
  sym,
  ap,
  ◌∙◌,
  append_assoc,
  append-nil,
}
use Rattle.std.specs.List.{flat_map}
use Rattle.msb_laws.specs.Results.{and_then, map_ok, all_ok, fold_ok}
use Rattle.msb_values.specs.declared.item.Item.{Item}
use Rattle.task_trait.specs.declared.failures.Failure.{Failure}
use Rattle.task_kit.specs.Included.{all_of}

longer : {X : Type 0} (front list : List X) (rest : Result (List (List X)) Failure)
    → map_ok (λ more. front ++ more)
    (map_ok (flat_map (λ l. l)) (map_ok (λ lists. list ∷ lists) rest))
    ≡ map_ok (λ more. (front ++ list) ++ more) (map_ok (flat_map (λ l. l)) rest)
longer front list (Ok lists) = ap Ok (sym (append_assoc front list (flat_map (λ l. l) lists)))
longer front list (Err failure) = refl

turn : {X : Type 0} (front : List X) (first : Result (List X) Failure)
    (rest : Result (List (List X)) Failure) (next : List X → Result (List X) Failure)
    → ((front : List X) → map_ok (λ more. front ++ more) (map_ok (flat_map (λ l. l)) rest)
    ≡ next front)
    → map_ok (λ more. front ++ more)
    (map_ok (flat_map (λ l. l)) (and_then first (λ list. map_ok (λ lists. list ∷ lists) rest)))
    ≡ and_then (map_ok (λ more. front ++ more) first) next
turn front (Ok list) rest next later = longer front list rest ∙ later (front ++ list)
turn front (Err failure) rest next later = refl

pub fold_all_of : {X : Type 0} (each : Item → Result (List X) Failure) (front : List X)
    (entries : List Item)
    → map_ok (λ more. front ++ more) (all_of each entries)
    ≡ fold_ok (λ so_far entry. map_ok (λ more. so_far ++ more) (each entry)) front entries
fold_all_of each front [] = ap Ok (append-nil front)
fold_all_of each front (entry ∷ entries) = turn front (each entry) (all_ok each entries) _
    (λ next. fold_all_of each next entries)

-- from nothing on
pub from_nothing : {X : Type 0} (rest : Result (List X) Failure)
    → map_ok (λ more. [] ++ more) rest ≡ rest
from_nothing (Ok list) = refl
from_nothing (Err failure) = refl
