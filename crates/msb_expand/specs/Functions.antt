-- What the steps of an item reference do to its items. (MSBuild transforms; Item functions)
use Rattle.std.specs.Prelude.{
  Bool,
  true,
  false,
  ◌==◌,
  not,
  List,
  [],
  ◌∷◌,
  length,
  map,
  reverse,
  Option,
  Some,
  option_and_then,
  Result,
  Ok,
  Err,
  codes,
}
use Rattle.std.specs.Fmt.{decimal}
use Rattle.std.specs.List.{list_any, flat_map}
use Rattle.msb_laws.specs.Words.{Text, Name, Path}
use Rattle.msb_values.specs.Pairs.{value_at}
use Rattle.msb_values.specs.Same.{is_same_text}
use Rattle.msb_values.specs.declared.item.Item.{Item}
use Rattle.msb_expression.specs.Written.{piece_text}
use Rattle.msb_expression.specs.declared.expression.Piece.{Piece}
use Rattle.msb_expression.specs.declared.expression.Piece.TheVariants.{Plain, Prop, Meta}
use Rattle.msb_expression.specs.declared.expression.Step.{Step}
use Rattle.msb_expression.specs.declared.expression.Step.TheVariants.{Transform, Call}
use Rattle.msb_expand.specs.declared.faults.ExpandFault.{ExpandFault}
use Rattle.msb_expand.specs.declared.faults.ExpandFault.TheVariants.{UnknownFunction}
use Rattle.msb_expand.specs.declared.functions.Function.{Function}
use Rattle.msb_expand.specs.declared.functions.Function.TheVariants.{
  Count,
  Distinct,
  Reverse,
  HasMetadata,
  WithMetadataValue,
  AnyHaveMetadataValue,
  ClearMetadata,
}
use Rattle.msb_values.specs.Keys.{key_of}
use Rattle.msb_laws.specs.Results.{and_then, map_ok, all_ok}
use Rattle.msb_expand.specs.Limits.{grown_by}
use Rattle.msb_expand.specs.Scenes.{Scene}
use Rattle.msb_expand.specs.Reserved.{property_of}
use Rattle.msb_expand.specs.Metadata.{metadata_of}

-- the item functions, by their names without case
abbrev pub functions : List (Name × Function)
functions =
    (codes "count", Count) ∷
    (codes "distinct", Distinct) ∷
    (codes "reverse", Reverse) ∷
    (codes "hasmetadata", HasMetadata) ∷
    (codes "withmetadatavalue", WithMetadataValue) ∷
    (codes "anyhavemetadatavalue", AnyHaveMetadataValue) ∷
    (codes "clearmetadata", ClearMetadata) ∷ []

-- an item that is a text and nothing else
abbrev pub plain_item : Text → Item
plain_item text = record { ident = text; recursive = []; meta = [] }

-- the first item of each identity
abbrev pub distinct_from : List Text → List Item → List Item
distinct_from seen [] = []
distinct_from seen (item ∷ items) =
    elim (list_any (is_same_text item.ident) seen) [
      | true ↦ distinct_from seen items
      | false ↦ item ∷ distinct_from (item.ident ∷ seen) items
    ]

abbrev pub without_metadata : Item → Item
without_metadata item = record { ident = item.ident; recursive = item.recursive; meta = [] }

-- the items of which a metadata passes
abbrev pub kept_if : Bool → Item → List Item → List Item
kept_if true item items = item ∷ items
kept_if false item items = items

abbrev pub filtered : Path → Name → (Text → Bool) → List Item → Result (List Item) ExpandFault
filtered project name passes [] = Ok []
filtered project name passes (item ∷ items) =
    and_then (metadata_of project item name)
    (λ value. map_ok (kept_if (passes value) item) (filtered project name passes items))

-- whether any passes, which ends at the first that does
abbrev pub any_passes : Path → Name → (Text → Bool) → List Item → Result Bool ExpandFault
any_passes project name passes [] = Ok false
any_passes project name passes (item ∷ items) =
    and_then (metadata_of project item name)
    (λ value.
    elim (passes value) [ true ↦ Ok true | false ↦ any_passes project name passes items ])

abbrev pub truth_text : Bool → Text
truth_text true = codes "true"
truth_text false = codes "false"

abbrev pub is_some_text : Text → Bool
is_some_text text = not (length text == 0)

-- a function's result; another name or number of arguments is refused
abbrev pub function_result : Path → Name → Option Function → List Text → List Item
    → Result (List Item) ExpandFault
function_result project name (Some Count) [] items = Ok (plain_item (decimal (length items)) ∷ [])
function_result project name (Some Distinct) [] items = Ok (distinct_from [] items)
function_result project name (Some Reverse) [] items = Ok (reverse items)
function_result project name (Some HasMetadata) (of ∷ []) items = filtered project of is_some_text
    items
function_result project name (Some WithMetadataValue) (of ∷ value ∷ []) items = filtered project of
    (is_same_text value) items
function_result project name (Some AnyHaveMetadataValue) (of ∷ value ∷ []) items =
    map_ok (λ any. plain_item (truth_text any) ∷ [])
    (any_passes project of (is_same_text value) items)
function_result project name (Some ClearMetadata) [] items = Ok (map without_metadata items)
function_result project name function args items = Err (UnknownFunction name)

-- a part of a transform, over an item
abbrev pub piece_value : Scene → Item → Piece → Result Text ExpandFault
piece_value scene item (Plain text) = Ok text
piece_value scene item (Prop name) = Ok (property_of scene name)
piece_value scene item (Meta name) = metadata_of scene.project item name

-- a transform replaces the identity and keeps the rest of the item
abbrev pub transformed : Scene → List Piece → Item → Result Item ExpandFault
transformed scene pieces item =
    map_ok (λ text. record { ident = text; recursive = item.recursive; meta = item.meta })
    (grown_by (piece_value scene item) [] pieces)

-- a part of an argument or of a separator, where properties alone have values
abbrev pub quoted_piece : Scene → Piece → Text
quoted_piece scene (Prop name) = property_of scene name
quoted_piece scene (Plain text) = text
quoted_piece scene (Meta name) = piece_text (Meta name)

abbrev pub quoted_value : Scene → List Piece → Text
quoted_value scene pieces = flat_map (quoted_piece scene) pieces

abbrev pub stepped : Scene → Step → List Item → Result (List Item) ExpandFault
stepped scene (Transform pieces) items = all_ok (transformed scene pieces) items
stepped scene (Call name args) items =
    function_result scene.project name
    (option_and_then (λ key. value_at key functions) (key_of name))
    (map (quoted_value scene) args) items

-- one step after the other
abbrev pub after_steps : Scene → List Step → List Item → Result (List Item) ExpandFault
after_steps scene [] items = Ok items
after_steps scene (step ∷ steps) items = and_then (stepped scene step items)
    (λ next. after_steps scene steps next)
