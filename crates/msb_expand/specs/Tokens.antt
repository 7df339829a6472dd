-- What stands in place of each part of an expression, by where the expression stands.
-- (MSBuild properties; MSBuild items; MSBuild item metadata)
use Rattle.std.specs.Prelude.{
  Bool,
  true,
  false,
  not,
  List,
  [],
  ◌∷◌,
  map,
  Option,
  Some,
  None,
  option_map,
  option_and_then,
  Result,
  Ok,
  Err,
}
use Rattle.std.specs.List.{flat_map}
use Rattle.std.specs.Str.{bytes_eq}
use Rattle.msb_laws.specs.Words.{Text, Name}
use Rattle.msb_values.specs.Pairs.{value_at}
use Rattle.msb_values.specs.declared.item.Item.{Item}
use Rattle.msb_expression.specs.Reading.{reading}
use Rattle.msb_expression.specs.Written.{part_text}
use Rattle.msb_expression.specs.declared.faults.ExprFault.{ExprFault}
use Rattle.msb_expression.specs.declared.expression.Piece.{Piece}
use Rattle.msb_expression.specs.declared.expression.Piece.TheVariants.{
  Plain as PlainPiece,
  Prop as PropPiece,
  Meta as MetaPiece,
}
use Rattle.msb_expression.specs.declared.expression.Step.{Step}
use Rattle.msb_expression.specs.declared.expression.Step.TheVariants.{Transform, Call}
use Rattle.msb_expression.specs.declared.expression.Part.{Part}
use Rattle.msb_expression.specs.declared.expression.Part.TheVariants.{
  Plain,
  Prop,
  Func,
  Meta,
  Items,
}
use Rattle.msb_expand.specs.declared.faults.ExpandFault.{ExpandFault}
use Rattle.msb_expand.specs.declared.faults.ExpandFault.TheVariants.{ItemsHere, MetadataHere, Expr}
use Rattle.msb_expand.specs.declared.lens.Use.{Use}
use Rattle.msb_expand.specs.declared.lens.Use.TheVariants.{
  Properties,
  Definition,
  Metadata,
  All,
  Batched,
}
use Rattle.msb_expand.specs.declared.lens.Bucket.{Bucket}
use Rattle.msb_values.specs.Keys.{key_of}
use Rattle.msb_expand.specs.Calls.{calls_text}
use Rattle.msb_expand.specs.Scenes.{Scene, defaults_at, with_defaults}
use Rattle.msb_expand.specs.Reserved.{property_of}
use Rattle.msb_expand.specs.Metadata.{metadata_of, text_or_none}

-- text, an item reference that has a value, or a fault
pub data Token : Type 0 where
  written : Text → Token
  referred : Name → List Step → Option (List Piece) → Token
  faulty : ExpandFault → Token

abbrev pub token_of : Result Text ExpandFault → Token
token_of (Ok text) = written text
token_of (Err fault) = faulty fault

-- An item reference that stays text: each property inside it has its value first.
abbrev pub filled_piece : Scene → Piece → Piece
filled_piece scene (PropPiece name) = PlainPiece (property_of scene name)
filled_piece scene (PlainPiece text) = PlainPiece text
filled_piece scene (MetaPiece name) = MetaPiece name

abbrev pub filled : Scene → List Piece → List Piece
filled scene pieces = map (filled_piece scene) pieces

abbrev pub filled_step : Scene → Step → Step
filled_step scene (Transform pieces) = Transform (filled scene pieces)
filled_step scene (Call function args) = Call function (map (filled scene) args)

abbrev pub kept_text : Scene → Name → List Step → Option (List Piece) → Text
kept_text scene kind steps separator = part_text
    (Items kind (map (filled_step scene) steps) (option_map (filled scene) separator))

abbrev pub items_token : Use → Scene → Name → List Step → Option (List Piece) → Token
items_token Properties scene kind steps separator = written (kept_text scene kind steps separator)
items_token Definition scene kind steps separator = faulty ItemsHere
items_token _ scene kind steps separator = referred kind steps separator

-- The value of a property is read again for item references where these have values; its other
-- references stay text.
abbrev pub again_token : Part → Token
again_token (Items kind steps separator) = referred kind steps separator
again_token part = written (part_text part)

abbrev pub again_tokens : Result (List Part) ExprFault → List Token
again_tokens (Ok parts) = map again_token parts
again_tokens (Err fault) = faulty (Expr fault) ∷ []

abbrev pub property_tokens : Use → Text → List Token
property_tokens Properties value = written value ∷ []
property_tokens Definition value = written value ∷ []
property_tokens _ value = again_tokens (reading value)

-- a reference that is qualified by another type than this one
abbrev pub is_other : Name → Option Name → Bool
is_other kind (Some key) = not (bytes_eq key kind)
is_other kind None = true

abbrev pub is_foreign : Name → Option Name → Bool
is_foreign kind None = false
is_foreign kind (Some qualifier) = is_other kind (key_of qualifier)

-- metadata of the item at hand
abbrev pub unless : Bool → Token → Token
unless true token = faulty MetadataHere
unless false token = token

abbrev pub default_token : Scene → Option (Name × Item) → Option Name → Name → Token
default_token scene None qualifier name = faulty MetadataHere
default_token scene (Some own) qualifier name =
    unless (is_foreign own.0 qualifier)
    (written
    (text_or_none
    (option_and_then (λ key. value_at key (defaults_at scene own.0)) (key_of name))))

abbrev pub own_token : Scene → Option (Name × Item) → Option Name → Name → Token
own_token scene None qualifier name = faulty MetadataHere
own_token scene (Some own) qualifier name =
    unless (is_foreign own.0 qualifier)
    (token_of (metadata_of scene.project (with_defaults (defaults_at scene own.0) own.1) name))

-- a bucket's value of a reference, where it holds one
abbrev pub is_qualifier : Option Name → Option Name → Bool
is_qualifier None None = true
is_qualifier (Some a) (Some b) = bytes_eq a b
is_qualifier None (Some b) = false
is_qualifier (Some a) None = false

abbrev pub value_in : Option Name → Name → List (Option Name × Name × Text) → Option Text
value_in qualifier name [] = None
value_in qualifier name (v ∷ values) =
    elim (is_qualifier v.0 qualifier) [
      | true ↦ elim (bytes_eq v.1 name) [ true ↦ Some v.2 | false ↦ value_in qualifier name values ]
      | false ↦ value_in qualifier name values
    ]

-- the keys of a reference's qualifier and name
abbrev pub reference_key : Option Name → Name → Option (Option Name × Name)
reference_key None name = option_map (λ key. (None, key)) (key_of name)
reference_key (Some qualifier) name = option_and_then
    (λ kind. option_map (λ key. (Some kind, key)) (key_of name)) (key_of qualifier)

abbrev pub value_by : Option (Option Name × Name) → List (Option Name × Name × Text) → Option Text
value_by (Some reference) values = value_in reference.0 reference.1 values
value_by None values = None

abbrev pub bucket_value : Option Bucket → Option Name → Name → Option Text
bucket_value None qualifier name = None
bucket_value (Some bucket) qualifier name = value_by (reference_key qualifier name) bucket.values

-- a reference that the bucket does not hold is refused
abbrev pub token_if : Option Text → Token
token_if (Some text) = written text
token_if None = faulty MetadataHere

abbrev pub metadata_token : Use → Scene → Option Name → Name → Token
metadata_token Properties scene qualifier name = written (part_text (Meta qualifier name))
metadata_token Definition scene qualifier name = default_token scene scene.own qualifier name
metadata_token Metadata scene qualifier name = own_token scene scene.own qualifier name
metadata_token All scene qualifier name = faulty MetadataHere
metadata_token Batched scene qualifier name = token_if (bucket_value scene.bucket qualifier name)

abbrev pub part_tokens : Scene → Part → List Token
part_tokens scene (Plain text) = written text ∷ []
part_tokens scene (Prop name) = property_tokens scene.usage (property_of scene name)
part_tokens scene (Func subject calls) = token_of (calls_text scene subject calls) ∷ []
part_tokens scene (Meta qualifier name) = metadata_token scene.usage scene qualifier name ∷ []
part_tokens scene (Items kind steps separator) = items_token scene.usage scene kind steps separator
    ∷ []

abbrev pub tokens : Scene → List Part → List Token
tokens scene parts = flat_map (part_tokens scene) parts
