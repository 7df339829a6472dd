-- What the code holds of a run.
use Rattle.msb_files.specs.Views.{View, paths}
use Rattle.element_texts.specs.Contexts.{ElementContext}
use Rattle.element_texts.specs.Seen.{context_of}
use Rattle.element_texts.specs.declared.context.ElementContext as code
use Rattle.target_texts.specs.declared.lists.Lists.{Lists as MadeLists}
use Rattle.target_texts.specs.declared.outputs.Destination.{Destination as MadeDestination}
use Rattle.target_texts.specs.declared.outputs.Destination.TheVariants.{Items, Property}
use Rattle.target_texts.specs.Lists.{Lists}
use Rattle.target_texts.specs.Outputs.{Destination, to_items, to_property}

-- what a run's texts see, by the view of files that they have
abbrev pub seen_context : code.ElementContext View → ElementContext
seen_context context = context_of paths context

abbrev pub seen_destination : MadeDestination → Destination
seen_destination (Items kind) = to_items kind
seen_destination (Property name) = to_property name

abbrev pub seen_lists : MadeLists → Lists
seen_lists lists = record { inputs = lists.inputs; outputs = lists.outputs; items = lists.items }
