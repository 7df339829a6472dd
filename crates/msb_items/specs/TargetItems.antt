-- What an item element in a target changes, in one of its buckets. (ItemGroup element; Item
-- element; MSBuild items)
use Rattle.std.specs.Prelude.{
  List,
  [],
  ◌∷◌,
  map,
  filter,
  Bool,
  true,
  false,
  Option,
  Some,
  None,
  Result,
  Ok,
  codes,
}
use Rattle.msb_laws.specs.Words.{Text, Name, Pairs}
use Rattle.msb_laws.specs.Results.{and_then, map_ok}
use Rattle.msb_values.specs.Changes.{with_metadata}
use Rattle.msb_values.specs.Escapes.{unescaped}
use Rattle.msb_values.specs.Pairs.{value_at}
use Rattle.msb_values.specs.declared.change.Change.{Change}
use Rattle.msb_values.specs.declared.change.Change.TheVariants.{AddItems, RemoveItems, SetMeta}
use Rattle.msb_values.specs.declared.item.Item.{Item}
use Rattle.msb_expand.specs.Scenes.{pairs_or_none}
use Rattle.build_world.specs.declared.fault.EvalFault.{EvalFault}
use Rattle.build_world.specs.Elements.{At, attribute_of, or_fault}
use Rattle.element_texts.specs.Contexts.{ElementContext, element_holds, items_seen, text_at}
use Rattle.msb_items.specs.Metadata.{target_attributes, metadata_on}
use Rattle.msb_items.specs.Definitions.{no_item}
use Rattle.msb_items.specs.ItemNames.{is_named}
use Rattle.msb_items.specs.Items.{with_all_metadata, items_at, names_at, less_excluded}
use Rattle.msb_items.specs.Repeats.{without_repeats}
use Rattle.msb_items.specs.Transfers.{transferred, transfer_at}
use Rattle.msb_items.specs.Truths.{truth_or}

-- The metadata that are written on the element. Their texts see the bucket and no item, so that
-- each item gets the same; they are read where there is an item that gets them.
abbrev pub pairs_written : ElementContext → Name → At → Result Pairs EvalFault
pairs_written p kind e = map_ok (λ item. item.meta)
    (with_all_metadata p kind (metadata_on target_attributes e) no_item)

abbrev pub pairs_for : ElementContext → Name → At → List Item → Result Pairs EvalFault
pairs_for p kind e [] = Ok []
pairs_for p kind e (item ∷ items) = pairs_written p kind e

-- whether an item is added that is there already
abbrev pub keeps_repeats : ElementContext → At → Option Text → Result Bool EvalFault
keeps_repeats p e None = Ok true
keeps_repeats p e (Some written) = and_then (text_at p e written)
    (λ text. or_fault e (truth_or true (unescaped text)))

abbrev pub less_repeats_if : Bool → ElementContext → Name → List Item → List Item
less_repeats_if true p kind items = items
less_repeats_if false p kind items = without_repeats
    (pairs_or_none (value_at kind p.scope.defaults)) (items_seen p kind) items

abbrev pub less_repeats : ElementContext → Name → At → List Item → Result (List Item) EvalFault
less_repeats p kind e items = map_ok (λ keeps. less_repeats_if keeps p kind items)
    (keeps_repeats p e (attribute_of (codes "KeepDuplicates") e))

-- some items with the metadata that are written on the element
abbrev pub with_pairs : ElementContext → Name → At → List Item → Result (List Item) EvalFault
with_pairs p kind e items = map_ok (λ pairs. map (with_metadata pairs) items)
    (pairs_for p kind e items)

-- the items that an Include adds: those of its entries less the excluded, with what they keep of
-- their metadata
abbrev pub source_items : ElementContext → At → Text → Result (List Item) EvalFault
source_items p e include =
    and_then (items_at p e include) (λ items.
    and_then (less_excluded p e (attribute_of (codes "Exclude") e) items) (λ items.
    map_ok (λ transfer. map (transferred transfer) items) (transfer_at p e)))

abbrev pub added_items : ElementContext → Name → At → Text → Result (List Item) EvalFault
added_items p kind e include = and_then (source_items p e include)
    (λ items. and_then (with_pairs p kind e items) (less_repeats p kind e))

-- the items that the bucket sees and the entries of an attribute name
abbrev pub named_items : ElementContext → Name → At → Text → Result (List Item) EvalFault
named_items p kind e written = map_ok
    (λ names. filter (is_named p.project names) (items_seen p kind)) (names_at p e written)

-- these items get the metadata that are written on the element
abbrev pub metadata_set : ElementContext → Name → At → List Item → Result Change EvalFault
metadata_set p kind e items = map_ok (SetMeta kind items) (pairs_for p kind e items)

-- Include adds items, Remove takes those away that it names, and Update changes the metadata of
-- those that it names; an element with none of them changes the metadata of all items that the
-- bucket sees
abbrev pub change_by : ElementContext → Name → At → Option Text → Option Text → Option Text
    → Result Change EvalFault
change_by p kind e (Some include) remove update = map_ok (AddItems kind)
    (added_items p kind e include)
change_by p kind e None (Some remove) update = map_ok
    (λ items. RemoveItems kind (map (λ item. item.ident) items)) (named_items p kind e remove)
change_by p kind e None None (Some update) = and_then (named_items p kind e update)
    (metadata_set p kind e)
change_by p kind e None None None = metadata_set p kind e (items_seen p kind)

abbrev pub item_change_if : Bool → Name → ElementContext → At → Result (List Change) EvalFault
item_change_if true kind p e = map_ok (λ change. change ∷ [])
    (change_by p kind e (attribute_of (codes "Include") e) (attribute_of (codes "Remove") e)
    (attribute_of (codes "Update") e))
item_change_if false kind p e = Ok []

-- one change, if the Condition holds
abbrev pub item_changes : Name → ElementContext → At → Result (List Change) EvalFault
item_changes kind p e = and_then (element_holds p e) (λ holds. item_change_if holds kind p e)
