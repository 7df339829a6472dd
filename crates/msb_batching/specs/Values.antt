-- The values that the items of batched lists have at the references. (MSBuild batching; MSBuild
-- item metadata)
use Rattle.std.specs.Prelude.{
  Bool,
  true,
  false,
  not,
  ◌||◌,
  ◌&&◌,
  is_some,
  List,
  [],
  Option,
  Some,
  None,
  Result,
  Ok,
  Err,
}
use Rattle.std.specs.Str.{bytes_eq}
use Rattle.msb_laws.specs.Words.{Text, Name}
use Rattle.msb_values.specs.Pairs.{value_at}
use Rattle.msb_values.specs.declared.item.Item.{Item}
use Rattle.msb_expand.specs.declared.faults.ExpandFault.{ExpandFault}
use Rattle.msb_expand.specs.Metadata.{metadata_at, well_known}
use Rattle.msb_laws.specs.Results.{map_ok, all_ok}
use Rattle.msb_expand.specs.Scenes.{Scene, defaults_at, with_defaults, list_in}
use Rattle.msb_batching.specs.declared.faults.BatchFault.{BatchFault}
use Rattle.msb_batching.specs.declared.faults.BatchFault.TheVariants.{NoValue, Expand}
use Rattle.msb_batching.specs.declared.reference.Reference.{Reference}
use Rattle.msb_batching.specs.References.{Spoken, has, batched}

abbrev pub or_batch_fault : {X : Type 0} → Result X ExpandFault → Result X BatchFault
or_batch_fault (Ok x) = Ok x
or_batch_fault (Err fault) = Err (Expand fault)

-- the metadata of an item of this type, or empty
abbrev pub metadata_for : Scene → Name → Item → Name → Result Text BatchFault
metadata_for scene kind item name = or_batch_fault
    (metadata_at scene.project (with_defaults (defaults_at scene kind) item) name)

-- whether the item has it: well-known, its own or its type's default
abbrev pub has_metadata : Scene → Name → Item → Name → Bool
has_metadata scene kind item name = is_some (value_at name well_known)
    || (is_some (value_at name item.meta) || is_some (value_at name (defaults_at scene kind)))

abbrev pub metadata_if : Bool → Scene → Name → Item → Name → Result Text BatchFault
metadata_if true scene kind item name = metadata_for scene kind item name
metadata_if false scene kind item name = Ok []

abbrev pub metadata_unless : Bool → Scene → Name → Item → Name → Result Text BatchFault
metadata_unless true scene kind item name = Err (NoValue kind item.ident name)
metadata_unless false scene kind item name = metadata_for scene kind item name

-- A reference that another type qualifies has the empty value. An item of a list that is named must
-- have the metadata of each reference that no type qualifies.
abbrev pub value_for : Scene → Bool → Name → Item → Option Name → Name → Result Text BatchFault
value_for scene is_named kind item (Some qualifier) name = metadata_if (bytes_eq qualifier kind)
    scene kind item name
value_for scene is_named kind item None name = metadata_unless
    (is_named && not (has_metadata scene kind item name)) scene kind item name

-- an item's values at the references
abbrev pub tuple_of : Scene → Bool → Name → List Reference → Item
    → Result (List Text) BatchFault
tuple_of scene is_named kind references item = all_ok
    (λ reference. value_for scene is_named kind item reference.kind reference.name) references

-- the items of a list, each with its tuple
abbrev pub rows_of : Scene → Bool → Name → List Reference → List Item
    → Result (List (Item × List Text)) BatchFault
rows_of scene is_named kind references items = all_ok
    (λ item. map_ok (λ tuple. (item, tuple)) (tuple_of scene is_named kind references item)) items

abbrev pub batch_of : Scene → Spoken → Name
    → Result (Name × List (Item × List Text)) BatchFault
batch_of scene s kind =
    map_ok (λ rows. (kind, rows))
    (rows_of scene (has kind s.named) kind s.references
    (list_in scene.bucket scene.scope.items kind))

-- each batched list with its rows, or the first fault: list by list, item by item, reference by
-- reference
abbrev pub batches_of : Scene → Spoken
    → Result (List (Name × List (Item × List Text))) BatchFault
batches_of scene s = all_ok (batch_of scene s) (batched s)
