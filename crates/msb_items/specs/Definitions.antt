-- The metadata that items of each type have by default. (Item definitions; ItemDefinitionGroup
-- element)
use Rattle.std.specs.Prelude.{
  List,
  [],
  ◌∷◌,
  Bool,
  true,
  false,
  Option,
  Some,
  None,
  Result,
  Ok,
  codes,
  if◌then◌else◌,
}
use Rattle.std.specs.BTreeMap.{insert_entry}
use Rattle.std.specs.Ordering.{nat_cmp}
use Rattle.std.specs.Cmp.Lexicographic.{slice_cmp}
use Rattle.std.specs.Str.{bytes_eq}
use Rattle.msb_laws.specs.Words.{Text, Name, Path}
use Rattle.msb_laws.specs.Results.{and_then, map_ok, fold_ok}
use Rattle.msb_values.specs.Pairs.{value_at}
use Rattle.msb_values.specs.declared.item.Item.{Item}
use Rattle.msb_values.specs.declared.scope.Scope.{Scope}
use Rattle.msb_elements.specs.Nodes.{name_of}
use Rattle.msb_expand.specs.Keys.{key_of}
use Rattle.msb_expand.specs.Scenes.{pairs_or_none}
use Rattle.build_world.specs.declared.fault.EvalFault.{EvalFault}
use Rattle.build_world.specs.Elements.{At, children_of}
use Rattle.element_texts.specs.Contexts.{
  ElementContext,
  definition_context,
  metadata_context,
  with_scope,
  after_each,
  element_holds,
}
use Rattle.msb_items.specs.Metadata.{
  WrittenMetadata,
  definition_attributes,
  metadata_on,
  metadata_value,
}

-- an item of which nothing but its type is seen
abbrev pub no_item : Item
no_item = record { ident = []; recursive = []; meta = [] }

-- the last definition of a metadata wins
abbrev pub with_default : Scope → Name → Option (Name × Text) → Scope
with_default scope kind None = scope
with_default scope kind (Some pair) = record {
  globals = scope.globals;
  props = scope.props;
  items = scope.items;
  defaults = insert_entry (slice_cmp nat_cmp) scope.defaults kind
      (insert_entry (slice_cmp nat_cmp) (pairs_or_none (value_at kind scope.defaults)) pair.0
      pair.1);
}

-- a metadata of a definition, which sees the defaults of its type so far
abbrev pub with_default_written : Name → ElementContext → WrittenMetadata → Result Scope EvalFault
with_default_written kind p metadata = map_ok (with_default p.scope kind)
    (metadata_value (metadata_context p kind no_item) metadata)

abbrev pub with_defaults_written : Name → ElementContext → List WrittenMetadata
    → Result Scope EvalFault
with_defaults_written kind p written = fold_ok
    (λ scope metadata. with_default_written kind (with_scope p scope) metadata) p.scope written

abbrev pub definition_named : Option Name → ElementContext → At → Result Scope EvalFault
definition_named None p e = Ok p.scope
definition_named (Some kind) p e = with_defaults_written kind p
    (metadata_on definition_attributes e)

abbrev pub definition_if : Bool → ElementContext → At → Result Scope EvalFault
definition_if true p e = definition_named (key_of (name_of e.node)) p e
definition_if false p e = Ok p.scope

-- a definition element
abbrev pub with_definition : ElementContext → At → Result Scope EvalFault
with_definition p e = and_then (element_holds p e) (λ holds. definition_if holds p e)

abbrev pub definitions_if : Bool → ElementContext → At → Result Scope EvalFault
definitions_if true p e = after_each with_definition p (children_of e)
definitions_if false p e = Ok p.scope

-- an ItemDefinitionGroup
abbrev pub with_definitions : ElementContext → At → Result Scope EvalFault
with_definitions p e = and_then (element_holds p e) (λ holds. definitions_if holds p e)

-- no other element changes a default
abbrev pub defined_by : ElementContext → At → Result Scope EvalFault
defined_by p e = if bytes_eq (name_of e.node) (codes "ItemDefinitionGroup") then with_definitions p
    e else Ok p.scope

-- the file of the first element is the root file
abbrev pub project_path : List At → Path
project_path [] = []
project_path (e ∷ es) = e.file

abbrev pub all_defined : List Path → Scope → List At → Result Scope EvalFault
all_defined files scope elements = after_each defined_by
    (definition_context files (project_path elements) scope) elements
