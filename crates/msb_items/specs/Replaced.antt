-- Items of which some are replaced: those that an Update names, each by itself with its new
-- metadata.
use Rattle.std.specs.Prelude.{List, [], ◌∷◌, Bool, true, false, Option, Some, None, Result, Ok}
use Rattle.msb_laws.specs.Words.{Name}
use Rattle.msb_laws.specs.Results.{map_ok, all_ok}
use Rattle.msb_values.specs.declared.item.Item.{Item}
use Rattle.build_world.specs.declared.fault.EvalFault.{EvalFault}
use Rattle.element_texts.specs.Contexts.{ElementContext}
use Rattle.msb_items.specs.Metadata.{WrittenMetadata}
use Rattle.msb_items.specs.Items.{with_all_metadata}

-- what an item becomes, if it is named
abbrev pub replacement_if : Bool → ElementContext → Name → List WrittenMetadata → Item
    → Result (Option Item) EvalFault
replacement_if true p kind written item = map_ok Some (with_all_metadata p kind written item)
replacement_if false p kind written item = Ok None

abbrev pub replacements_of : ElementContext → Name → List WrittenMetadata → (Item → Bool)
    → List Item
    → Result (List (Option Item)) EvalFault
replacements_of p kind written is_named items = all_ok
    (λ item. replacement_if (is_named item) p kind written item) items

abbrev pub or_item : Option Item → Item → Item
or_item (Some changed) item = changed
or_item None item = item

-- each item, or what replaces it
abbrev pub replaced : List Item → List (Option Item) → List Item
replaced [] replacements = []
replaced (item ∷ items) [] = item ∷ replaced items []
replaced (item ∷ items) (replacement ∷ replacements) = or_item replacement item
    ∷ replaced items replacements
