-- The metadata that are written on an element: its attributes that are not reserved there, and then
-- its children. (Item element; ItemMetadata element; MSBuild well-known item metadata)
use Rattle.std.specs.Prelude.{
  List,
  [],
  ◌∷◌,
  ◌++◌,
  map,
  filter,
  not,
  Bool,
  true,
  false,
  Option,
  Some,
  None,
  Result,
  Ok,
  Err,
  codes,
}
use Rattle.std.specs.List.{list_any}
use Rattle.std.specs.Str.{bytes_eq}
use Rattle.msb_laws.specs.Words.{Text, Name}
use Rattle.msb_laws.specs.Results.{and_then, map_ok}
use Rattle.msb_values.specs.declared.cause.Cause.TheVariants.{Reserved}
use Rattle.msb_elements.specs.Nodes.{name_of, attributes_of, inner_text}
use Rattle.msb_expand.specs.Computed.{is_computed}
use Rattle.msb_expand.specs.Keys.{key_of}
use Rattle.build_world.specs.declared.fault.EvalFault.{EvalFault}
use Rattle.build_world.specs.Elements.{At, children_of, attribute_of, fault_of}
use Rattle.element_texts.specs.Contexts.{ElementContext, holds_at, text_at}

-- a name and a value as written, the Condition if there is one, and the element at which a fault is
-- told
pub record WrittenMetadata : Type 0 where
  pub name : Text
  pub text : Text
  pub condition : Option Text
  pub element : At

abbrev pub attribute_metadata : At → Text × Text → WrittenMetadata
attribute_metadata e pair = record { name = pair.0; text = pair.1; condition = None; element = e }

abbrev pub child_metadata : At → WrittenMetadata
child_metadata child = record {
  name = name_of child.node;
  text = inner_text child.node;
  condition = attribute_of
      (codes "Condition") child;
  element = child;
}

abbrev pub is_one_of : List Text → Text → Bool
is_one_of names name = list_any (bytes_eq name) names

abbrev pub metadata_on : List Text → At → List WrittenMetadata
metadata_on reserved e = map (attribute_metadata e)
    (filter (λ pair. not (is_one_of reserved pair.0)) (attributes_of e.node))
    ++ map child_metadata (children_of e)

-- the attributes of a definition and of an item that are no metadata
abbrev pub definition_attributes : List Text
definition_attributes = codes "Condition" ∷ codes "Label" ∷ []

abbrev pub item_attributes : List Text
item_attributes = codes "Include" ∷ codes "Exclude" ∷ codes "Remove" ∷ codes "Update"
    ∷ codes "Condition" ∷ codes "Label" ∷ []

-- and of an item element in a target
abbrev pub target_attributes : List Text
target_attributes = codes "KeepDuplicates" ∷ codes "KeepMetadata" ∷ codes "RemoveMetadata"
    ∷ item_attributes

abbrev pub value_unless : Bool → ElementContext → WrittenMetadata → Text
    → Result (Option (Name × Text)) EvalFault
value_unless true p metadata name = Err (fault_of metadata.element (Reserved name))
value_unless false p metadata name = map_ok (λ text. Some (name, text))
    (text_at p metadata.element metadata.text)

-- a name that is none names nothing
abbrev pub value_named : Option Name → ElementContext → WrittenMetadata
    → Result (Option (Name × Text)) EvalFault
value_named None p metadata = Ok None
value_named (Some name) p metadata = value_unless (is_computed name) p metadata name

abbrev pub value_if : Bool → ElementContext → WrittenMetadata
    → Result (Option (Name × Text)) EvalFault
value_if true p metadata = value_named (key_of metadata.name) p metadata
value_if false p metadata = Ok None

-- the name and the value, if the Condition holds; a name that is computed is refused
abbrev pub metadata_value : ElementContext → WrittenMetadata
    → Result (Option (Name × Text)) EvalFault
metadata_value p metadata = and_then (holds_at p metadata.element metadata.condition)
    (λ holds. value_if holds p metadata)
