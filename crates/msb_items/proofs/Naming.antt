-- What the code holds of the entries of an attribute names just the items that the entries name.
use Rattle.std.proofs.Common.{
  ◌≡◌,
  ◌∙◌,
  ℕ,
  Bool,
  not,
  List,
  filter,
  Result,
  Ok,
  Err,
  refl,
}
use Rattle.msb_laws.specs.Results.{and_then, map_ok}
use Rattle.msb_values.specs.Escapes.{unescaped}
use Rattle.msb_values.specs.declared.item.Item.{Item}
use Rattle.msb_expand.specs.Reserved.{folder_of}
use Rattle.msb_glob.specs.FoldedNames.{folded_names}
use Rattle.msb_glob.specs.ItemNames.{ItemNames}
use Rattle.msb_glob.specs.Parsed.{Reading}
use Rattle.msb_glob.proofs.Naming as names_of_entries
use Rattle.msb_items.specs.ItemNames.{is_named}
use Rattle.msb_items.specs.FoldedNames.{is_named_by, unnamed_by}
use Rattle.msb_items.specs.Items.{unnamed}

-- what goes on by which items are named
pub chosen : {X E : Type 0} (project : List ℕ) (next : (Item → Bool) → Result X E)
    (r : Result ItemNames E) (names : List (List ℕ) × List Reading)
    → map_ok folded_names r ≡ Ok names
    → and_then r (λ found. next (is_named project found)) ≡ next (is_named_by project names)
chosen project next = names_of_entries.chosen (folder_of project)
    (λ test. next (λ item. test (unescaped item.ident)))

as_next : {X Y E : Type 0} (f : X → Y) (r : Result X E) → map_ok f r ≡ and_then r (λ x. Ok (f x))
as_next f (Ok x) = refl
as_next f (Err e) = refl

pub left_same : {X E : Type 0} (f : List Item → X) (project : List ℕ) (items : List Item)
    (r : Result ItemNames E) (names : List (List ℕ) × List Reading)
    → map_ok folded_names r ≡ Ok names
    → map_ok (λ found. f (unnamed project items found)) r ≡ Ok (f (unnamed_by project names items))
left_same {X} {E} f project items r names is =
    let next : (Item → Bool) → Result X E = λ test.
    Ok (f (filter (λ item. not (test item)) items)) in
    as_next (λ found. f (unnamed project items found)) r ∙ chosen project next r names is

pub named_alike : {E : Type 0} (project : List ℕ) (items : List Item) (r : Result ItemNames E)
    (names : List (List ℕ) × List Reading) → map_ok folded_names r ≡ Ok names
    → map_ok (λ found. filter (is_named project found) items) r
    ≡ Ok (filter (is_named_by project names) items)
named_alike {E} project items r names is =
    let next : (Item → Bool) → Result (List Item) E = λ test. Ok (filter test items) in
    as_next (λ found. filter (is_named project found) items) r ∙ chosen project next r names is
