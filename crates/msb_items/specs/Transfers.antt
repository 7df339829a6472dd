-- Which metadata of its source a copied item keeps. (Item element, KeepMetadata and RemoveMetadata)
use Rattle.std.specs.Prelude.{List, [], ◌∷◌, fold, Option, Some, None, Result, Ok, codes}
use Rattle.std.specs.BTreeMap.{insert_entry}
use Rattle.std.specs.Cmp.Lexicographic.{slice_cmp}
use Rattle.std.specs.List.{filter_map}
use Rattle.std.specs.Ordering.{nat_cmp}
use Rattle.msb_laws.specs.Words.{Text, Name, Pairs}
use Rattle.msb_laws.specs.Results.{map_ok}
use Rattle.msb_values.specs.Keys.{key_of}
use Rattle.msb_values.specs.Lists.{list_of}
use Rattle.msb_values.specs.Pairs.{value_at, without_name}
use Rattle.msb_values.specs.declared.item.Item.{Item}
use Rattle.build_world.specs.declared.fault.EvalFault.{EvalFault}
use Rattle.build_world.specs.Elements.{At, attribute_of}
use Rattle.msb_items.specs.declared.transfer.Transfer.{Transfer}
use Rattle.msb_items.specs.declared.transfer.Transfer.TheVariants.{All, Only, Without}
use Rattle.element_texts.specs.Contexts.{ElementContext, text_at}

-- a metadata, if there is one
abbrev pub with_value : Name → Option Text → Pairs → Pairs
with_value name (Some value) meta = insert_entry (slice_cmp nat_cmp) meta name value
with_value name None meta = meta

-- the metadata of these names, and those of all others
abbrev pub only_named : List Name → Pairs → Pairs
only_named names meta = fold (λ kept name. with_value name (value_at name meta) kept) [] names

abbrev pub none_named : List Name → Pairs → Pairs
none_named names meta = fold (λ kept name. without_name name kept) meta names

abbrev pub with_meta : Item → Pairs → Item
with_meta item meta = record { ident = item.ident; recursive = item.recursive; meta = meta }

abbrev pub transferred : Transfer → Item → Item
transferred All item = item
transferred (Only names) item = with_meta item (only_named names item.meta)
transferred (Without names) item = with_meta item (none_named names item.meta)

-- the names that the entries of a list are; an entry that is no name names nothing
abbrev pub metadata_names : List Text → List Name
metadata_names entries = filter_map key_of entries

-- a KeepMetadata without entries keeps all
abbrev pub only_entries : List Text → Transfer
only_entries [] = All
only_entries (entry ∷ entries) = Only (metadata_names (entry ∷ entries))

-- what an expanded text says is cut at each `;`
abbrev pub only_listed : Text → Transfer
only_listed text = only_entries (list_of text)

abbrev pub without_listed : Text → Transfer
without_listed text = Without (metadata_names (list_of text))

-- one of the two may stand on an element
abbrev pub transfer_by : ElementContext → At → Option Text → Option Text → Result Transfer EvalFault
transfer_by p e (Some keep) remove = map_ok only_listed (text_at p e keep)
transfer_by p e None (Some remove) = map_ok without_listed (text_at p e remove)
transfer_by p e None None = Ok All

abbrev pub transfer_at : ElementContext → At → Result Transfer EvalFault
transfer_at p e = transfer_by p e (attribute_of (codes "KeepMetadata") e)
    (attribute_of (codes "RemoveMetadata") e)
