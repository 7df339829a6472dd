-- A list of which no entry is a pattern gives just its entries.
use Rattle.std.proofs.Common.{
  ◌≡◌,
  ℕ,
  Bool,
  true,
  false,
  ◌||◌,
  List,
  [],
  ◌∷◌,
  map,
  Ok,
  refl,
  ap,
  ◌∙◌,
}
use Rattle.std.specs.List.{flat_map, list_any}
use Rattle.msb_laws.specs.Results.{map_ok, all_ok}
use Rattle.msb_values.specs.declared.item.Item.{Item}
use Rattle.msb_expand.specs.declared.entry.Entry.{Entry}
use Rattle.msb_items.specs.Items.{all_items, items_of}
use Rattle.msb_items.specs.Patterns.{is_pattern_entry}

neither : (a b : Bool) → (a || b) ≡ false → (a ≡ false) × (b ≡ false)
neither true b none = cc
neither false b none = (refl, none)

each_alone : (files : List (List ℕ)) (project : List ℕ) (entries : List Entry)
    → list_any is_pattern_entry entries ≡ false
    → all_ok (items_of files project) entries ≡ Ok (map (λ entry. entry.item ∷ []) entries)
each_alone files project [] none = refl
each_alone files project (entry ∷ entries) none =
    let parts = neither (is_pattern_entry entry) (list_any is_pattern_entry entries) none in
    rw (parts.0, each_alone files project entries parts.1) refl

joined_alone : (entries : List Entry)
    → flat_map (λ (items : List Item). items) (map (λ entry. entry.item ∷ []) entries)
    ≡ map (λ entry. entry.item) entries
joined_alone [] = refl
joined_alone (entry ∷ entries) = ap (λ items. entry.item ∷ items) (joined_alone entries)

pub all_alone : (files : List (List ℕ)) (project : List ℕ) (entries : List Entry)
    → list_any is_pattern_entry entries ≡ false
    → all_items files project entries ≡ Ok (map (λ entry. entry.item) entries)
all_alone files project entries none = ap (map_ok (flat_map (λ items. items)))
    (each_alone files project entries none) ∙ ap Ok (joined_alone entries)

pub any_mapped : {X Y : Type 0} (test : Y → Bool) (f : X → Y) (xs : List X)
    → list_any test (map f xs) ≡ list_any (λ x. test (f x)) xs
any_mapped test f [] = refl
any_mapped test f (x ∷ xs) = ap (λ b. test (f x) || b) (any_mapped test f xs)
