-- What a task's Outputs change. (Output element)
use Rattle.std.specs.Prelude.{
  List,
  [],
  ◌∷◌,
  map,
  Bool,
  true,
  false,
  Option,
  Some,
  None,
  option_map,
  option_and_then,
  Result,
  Ok,
  Err,
  codes,
}
use Rattle.msb_laws.specs.Words.{Text, Name}
use Rattle.msb_values.specs.Keys.{key_of}
use Rattle.msb_values.specs.declared.cause.Cause.TheVariants.{Reserved}
use Rattle.msb_values.specs.declared.change.Change.{Change}
use Rattle.msb_values.specs.declared.change.Change.TheVariants.{SetProp, AddItems}
use Rattle.msb_values.specs.declared.item.Item.{Item}
use Rattle.msb_expand.specs.Reserved.{is_reserved}
use Rattle.msb_expand.specs.Values.{joined}
use Rattle.build_world.specs.Elements.{At, attribute_of, children_of, fault_of}
use Rattle.build_world.specs.declared.fault.EvalFault.{EvalFault}
use Rattle.element_texts.specs.Contexts.{ElementContext, element_holds}
use Rattle.target_incremental.specs.Inferred.{inferred}
use Rattle.task_trait.specs.Escaping.{taken_item}
use Rattle.task_trait.specs.declared.tools.Param.{Param}
use Rattle.target_texts.specs.Made.{Made, all_made, or_fault_made, up_to_fault}

-- where an Output goes: to the items of a type, or to a property
pub data Destination : Type 0 where
  to_items : Name → Destination
  to_property : Name → Destination

-- a property that the engine sets is refused
abbrev pub property_unless : Bool → At → Name → Result (Option Destination) EvalFault
property_unless true o name = Err (fault_of o (Reserved name))
property_unless false o name = Ok (Some (to_property name))

abbrev pub property_named : At → Option Name → Result (Option Destination) EvalFault
property_named o None = Ok None
property_named o (Some name) = property_unless (is_reserved name) o name

abbrev pub destination_by : At → (item property : Option Text)
    → Result (Option Destination) EvalFault
destination_by o (Some item) property = Ok (option_map to_items (key_of item))
destination_by o None (Some property) = property_named o (key_of property)
destination_by o None None = Ok None

abbrev pub destination_of : At → Result (Option Destination) EvalFault
destination_of o = destination_by o (attribute_of (codes "ItemName") o)
    (attribute_of (codes "PropertyName") o)

-- items are added to their type, and a property gets the identities joined by `;`
abbrev pub change_to : Destination → List Item → Change
change_to (to_items kind) items = AddItems kind items
change_to (to_property name) items = SetProp name (joined (codes ";") items)

-- what it is given is escaped; an Output that is given nothing is left out
abbrev pub changes_to : Option Destination → Option (List Item) → List Change
changes_to (Some destination) (Some items) = change_to destination (map taken_item items) ∷ []
changes_to (Some destination) None = []
changes_to None items = []

-- the items of the parameter that an Output names
abbrev pub output_items : List Param → At → Option (List Item)
output_items given o = option_and_then (λ name. inferred given name)
    (option_and_then (λ written. key_of written) (attribute_of (codes "TaskParameter") o))

abbrev pub output_if : Bool → List Param → At → Made
output_if true given o = or_fault_made (destination_of o)
    (λ destination. all_made (changes_to destination (output_items given o)))
output_if false given o = all_made []

-- an Output whose Condition holds
abbrev pub output : ElementContext → List Param → At → Made
output p given o = or_fault_made (element_holds p o) (λ holds. output_if holds given o)

-- the Outputs of a task element in order, of what is given to them
abbrev pub outputs : ElementContext → List Param → At → Made
outputs p given e = up_to_fault (output p given) (children_of e)
