-- Items that an Update names are replaced, each by what it becomes.
use Rattle.std.proofs.Common.{
  ◌≡◌,
  ℕ,
  Bool,
  true,
  false,
  List,
  [],
  ◌∷◌,
  Option,
  Some,
  None,
  Result,
  Ok,
  Err,
  refl,
  sym,
  ap,
  ◌∙◌,
}
use Rattle.msb_laws.specs.Results.{and_then, map_ok, all_ok}
use Rattle.msb_values.specs.declared.item.Item.{Item}
use Rattle.build_world.specs.declared.fault.EvalFault.{EvalFault}
use Rattle.build_world.specs.Elements.{At}
use Rattle.element_texts.specs.Contexts.{ElementContext}
use Rattle.msb_items.specs.Metadata.{WrittenMetadata, item_attributes, metadata_on}
use Rattle.msb_glob.specs.ItemNames.{ItemNames}
use Rattle.msb_items.specs.ItemNames.{is_named}
use Rattle.msb_items.specs.Items.{
  list_of,
  names_at,
  updated,
  updated_if,
  updated_items,
  with_all_metadata,
  with_list,
}
use Rattle.msb_items.specs.Replaced.{replaced, replacement_if, replacements_of}

each_replaced : (items : List Item) (item : Item) (r : Result Item EvalFault)
    (rest : Result (List (Option Item)) EvalFault)
    → map_ok (replaced (item ∷ items))
    (and_then (map_ok (λ (changed : Item). Some changed) r) (λ y. map_ok (λ ys. y ∷ ys) rest))
    ≡ and_then r (λ y. map_ok (λ ys. y ∷ ys) (map_ok (replaced items) rest))
each_replaced items item (Ok changed) (Ok replacements) = refl
each_replaced items item (Ok changed) (Err fault) = refl
each_replaced items item (Err fault) rest = refl

one_kept : (items : List Item) (item : Item) (rest : Result (List (Option Item)) EvalFault)
    → map_ok (replaced (item ∷ items)) (map_ok (λ (ys : List (Option Item)). None ∷ ys) rest)
    ≡ map_ok (λ (ys : List Item). item ∷ ys) (map_ok (replaced items) rest)
one_kept items item (Ok replacements) = refl
one_kept items item (Err fault) = refl

one_replaced : (p : ElementContext) (kind : List ℕ) (written : List WrittenMetadata) (b : Bool)
    (items : List Item) (item : Item) (rest : Result (List (Option Item)) EvalFault)
    → map_ok (replaced (item ∷ items))
    (and_then (replacement_if b p kind written item) (λ y. map_ok (λ ys. y ∷ ys) rest))
    ≡ and_then (updated_if b p kind written item)
    (λ y. map_ok (λ ys. y ∷ ys) (map_ok (replaced items) rest))
one_replaced p kind written true items item rest = each_replaced items item
    (with_all_metadata p kind written item) rest
one_replaced p kind written false items item rest = one_kept items item rest

pub replaced_all : (p : ElementContext) (kind : List ℕ) (written : List WrittenMetadata)
    (test : Item → Bool)
    (items : List Item)
    → map_ok (replaced items) (replacements_of p kind written test items)
    ≡ all_ok (λ item. updated_if (test item) p kind written item) items
replaced_all p kind written test [] = refl
replaced_all p kind written test (item ∷ items) =
    one_replaced p kind written (test item) items item (replacements_of p kind written test items)
    ∙ ap
    (λ rest. and_then (updated_if (test item) p kind written item)
    (λ y. map_ok (λ ys. y ∷ ys) rest)) (replaced_all p kind written test items)

mapped_twice : {X Y Z E : Type 0} (f : X → Y) (g : Y → Z) (r : Result X E)
    → map_ok (λ x. g (f x)) r ≡ map_ok g (map_ok f r)
mapped_twice f g (Ok x) = refl
mapped_twice f g (Err e) = refl

named_first : (p : ElementContext) (kind : List ℕ) (written : List WrittenMetadata)
    (r : Result ItemNames EvalFault)
    → and_then r
    (λ names. map_ok (with_list p.scope kind)
    (updated_items p kind written names (list_of p.scope kind)))
    ≡ map_ok (λ replacements. with_list p.scope kind (replaced (list_of p.scope kind) replacements))
    (and_then r
    (λ names. replacements_of p kind written (is_named p.project names) (list_of p.scope kind)))
named_first p kind written (Ok names) =
    ap (map_ok (with_list p.scope kind))
    (sym (replaced_all p kind written (is_named p.project names) (list_of p.scope kind)))
    ∙ sym
    (mapped_twice (replaced (list_of p.scope kind)) (with_list p.scope kind)
    (replacements_of p kind written (is_named p.project names) (list_of p.scope kind)))
named_first p kind written (Err fault) = refl

-- an Update by what replaces the items
pub updated_by : (p : ElementContext) (kind : List ℕ) (e : At) (update : List ℕ)
    → updated p kind e update
    ≡ map_ok (λ replacements. with_list p.scope kind (replaced (list_of p.scope kind) replacements))
    (and_then (names_at p e update)
    (λ names. replacements_of p kind (metadata_on item_attributes e) (is_named p.project names)
    (list_of p.scope kind)))
updated_by p kind e update = named_first p kind (metadata_on item_attributes e)
    (names_at p e update)
