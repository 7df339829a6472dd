-- What the code holds of its source and of the metadata that are written on an element.
use Rattle.std.specs.Prelude.{List, map, Bool, Option, Result, option_copied}
use Rattle.msb_laws.specs.Words.{Path, Text}
use Rattle.msb_values.specs.declared.item.Item as values
use Rattle.msb_values.specs.declared.scope.Scope.{Scope}
use Rattle.build_world.specs.declared.fault.EvalFault.{EvalFault}
use Rattle.build_world.specs.Elements.{seen_element}
use Rattle.msb_items.specs.declared.project_files.ProjectFiles.{ProjectFiles}
use Rattle.msb_items.specs.declared.metadata.Kind.{Kind}
use Rattle.msb_items.specs.declared.metadata.Kind.TheVariants.{Definition, Item, TargetItem}
use Rattle.msb_items.specs.declared.metadata.WrittenMetadata as written
use Rattle.msb_items.specs.declared.updates.GivenMetadata.{GivenMetadata}
use Rattle.element_texts.specs.Contexts.{ElementContext, definition_context, item_context}
use Rattle.msb_items.specs.Items.{with_all_metadata}
use Rattle.msb_items.specs.Metadata.{
  WrittenMetadata,
  definition_attributes,
  item_attributes,
  target_attributes,
}
use Rattle.msb_items.specs.Replaced.{replacement_if}

abbrev pub definitions_in : {F : Type 0} → (F → List Path) → ProjectFiles F → Scope
    → ElementContext
definitions_in files source scope = definition_context (files source.files.now) source.project.now
    scope

abbrev pub items_in : {F : Type 0} → (F → List Path) → ProjectFiles F → Scope → ElementContext
items_in files source scope = item_context (files source.files.now) source.project.now scope

abbrev pub metadata_of : written.WrittenMetadata → WrittenMetadata
metadata_of metadata = record {
  name = metadata.name.now;
  text = metadata.text.now;
  condition = option_copied
      metadata.condition;
  element = seen_element metadata.element;
}

-- an item with the metadata that are given to it
abbrev pub with_given : ElementContext → GivenMetadata → values.Item
    → Result values.Item EvalFault
with_given p given = with_all_metadata p given.kind.now (map metadata_of given.written.items)

-- what an item becomes by them, if it is named
abbrev pub replaced_by : ElementContext → GivenMetadata → Bool → values.Item
    → Result (Option values.Item) EvalFault
replaced_by p given is_named item = replacement_if is_named p given.kind.now
    (map metadata_of given.written.items) item

-- the attributes of an element that are no metadata
abbrev pub reserved_of : Kind → List Text
reserved_of Definition = definition_attributes
reserved_of Item = item_attributes
reserved_of TargetItem = target_attributes
