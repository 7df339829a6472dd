-- The properties of a list of laid-out elements, each seeing those before it.
-- (MSBuild properties; Property element; PropertyGroup element; Project element)
use Rattle.std.specs.Prelude.{
  ℕ,
  List,
  [],
  ◌∷◌,
  ◌++◌,
  ◌||◌,
  Bool,
  true,
  false,
  not,
  is_some,
  Option,
  Some,
  None,
  Result,
  Ok,
  Err,
  codes,
}
use Rattle.std.specs.List.{list_any}
use Rattle.std.specs.BTreeMap.{insert_entry}
use Rattle.std.specs.Ordering.{nat_cmp}
use Rattle.std.specs.Cmp.Lexicographic.{slice_cmp}
use Rattle.std.specs.Str.{bytes_eq}
use Rattle.msb_laws.specs.Words.{Text, Name, Path}
use Rattle.msb_laws.specs.Results.{and_then, map_ok, fold_ok}
use Rattle.msb_values.specs.Pairs.{value_at}
use Rattle.msb_values.specs.declared.cause.Cause.TheVariants.{Reserved}
use Rattle.msb_values.specs.declared.item.Item.{Item}
use Rattle.msb_elements.specs.Nodes.{name_of, inner_text}
use Rattle.msb_expand.specs.Keys.{key_of}
use Rattle.msb_expand.specs.Reserved.{is_reserved, folder_of}
use Rattle.msb_expand.specs.declared.lens.Use.TheVariants.{Properties as InProperty, Definition}
use Rattle.build_world.specs.declared.fault.EvalFault.{EvalFault}
use Rattle.build_world.specs.Elements.{At, children_of, attribute_of, fault_of}
use Rattle.element_texts.specs.Contexts as contexts
use Rattle.element_texts.specs.Contexts.{list_at, text_at}
use Rattle.msb_properties.specs.Settings.{Setting, Properties, context_at}

-- the Condition of an element, whose Exists starts from a folder
abbrev pub holds_from : Path → Setting → Properties → At → Result Bool EvalFault
holds_from folder s p e = contexts.holds_from folder (context_at s p Definition) e
    (attribute_of (codes "Condition") e)

-- of a PropertyGroup, an Import or an ImportGroup, where the folder is that of its file
abbrev pub holds_in_file : Setting → Properties → At → Result Bool EvalFault
holds_in_file s p e = holds_from (folder_of e.file) s p e

-- of any other element, where it is the project's folder
abbrev pub holds_in_project : Setting → Properties → At → Result Bool EvalFault
holds_in_project s p e = holds_from (folder_of s.path) s p e

-- the last definition of a property wins
abbrev pub with_value : Properties → Name → Text → Properties
with_value p name text = record
    { values = insert_entry (slice_cmp nat_cmp) p.values name text; local = p.local }

-- a global property is not changed, unless a file has made it its own
abbrev pub may_change : Setting → Properties → Name → Bool
may_change s p name = not (is_some (value_at name s.globals))
    || list_any (λ own. bytes_eq own name) p.local

abbrev pub set_if : Bool → Setting → Properties → At → Name → Result Properties EvalFault
set_if true s p e name = map_ok (with_value p name)
    (text_at (context_at s p InProperty) e (inner_text e.node))
set_if false s p e name = Ok p

-- a property that the engine sets is refused
abbrev pub set_unless : Bool → Setting → Properties → At → Name → Result Properties EvalFault
set_unless true s p e name = Err (fault_of e (Reserved name))
set_unless false s p e name = set_if (may_change s p name) s p e name

abbrev pub set_named : Option Name → Setting → Properties → At → Result Properties EvalFault
set_named None s p e = Ok p
set_named (Some name) s p e = set_unless (is_reserved name) s p e name

abbrev pub property_if : Bool → Setting → Properties → At → Result Properties EvalFault
property_if true s p e = set_named (key_of (name_of e.node)) s p e
property_if false s p e = Ok p

-- a property element
abbrev pub with_property : Setting → Properties → At → Result Properties EvalFault
with_property s p e = and_then (holds_in_project s p e) (λ holds. property_if holds s p e)

abbrev pub group_if : Bool → Setting → Properties → At → Result Properties EvalFault
group_if true s p e = fold_ok (with_property s) p (children_of e)
group_if false s p e = Ok p

-- a PropertyGroup
abbrev pub with_group : Setting → Properties → At → Result Properties EvalFault
with_group s p e = and_then (holds_in_file s p e) (λ holds. group_if holds s p e)

-- the names among some items; an entry that is no name names nothing
abbrev pub names_if : Option Name → List Name → List Name
names_if None names = names
names_if (Some name) names = name ∷ names

abbrev pub names_in : List Item → List Name
names_in [] = []
names_in (item ∷ items) = names_if (key_of item.ident) (names_in items)

abbrev pub with_local : Properties → List Item → Properties
with_local p items = record { values = p.values; local = p.local ++ names_in items }

abbrev pub made_local : Option Text → Setting → Properties → At → Result Properties EvalFault
made_local None s p e = Ok p
made_local (Some text) s p e = map_ok (with_local p)
    (list_at (context_at s p Definition) e text)

-- the Project element of a file, whose TreatAsLocalProperty is read where the file begins
abbrev pub with_project : Setting → Properties → At → Result Properties EvalFault
with_project s p e = made_local (attribute_of (codes "TreatAsLocalProperty") e) s p e

abbrev pub element_if : Bool → Bool → Setting → Properties → At → Result Properties EvalFault
element_if true group s p e = with_project s p e
element_if false true s p e = with_group s p e
element_if false false s p e = Ok p

-- no other element changes a property
abbrev pub with_element : Setting → Properties → At → Result Properties EvalFault
with_element s p e = element_if (bytes_eq (name_of e.node) (codes "Project"))
    (bytes_eq (name_of e.node) (codes "PropertyGroup")) s p e

-- they begin as the global ones
abbrev pub first_properties : Setting → Properties
first_properties s = record { values = s.globals; local = [] }

abbrev pub properties_of : Setting → List At → Result Properties EvalFault
properties_of s elements = fold_ok (with_element s) (first_properties s) elements
