-- Which items the entries of an Exclude, a Remove or an Update name. (Item element; MSBuild items,
-- wildcards to specify items)
use Rattle.std.specs.Prelude.{List, map, filter, Bool, Result}
use Rattle.msb_laws.specs.Results.{map_ok, all_ok}
use Rattle.msb_laws.specs.Words.{Text, Path}
use Rattle.msb_values.specs.Escapes.{unescaped}
use Rattle.msb_values.specs.declared.cause.Cause.{Cause}
use Rattle.msb_values.specs.declared.item.Item.{Item}
use Rattle.msb_expand.specs.Reserved.{folder_of}
use Rattle.msb_glob.specs.ItemNames as names
use Rattle.msb_glob.specs.ItemNames.{ItemNames}
use Rattle.msb_glob.specs.Parsed.{Reading}
use Rattle.msb_items.specs.Patterns.{is_pattern_entry, pattern_of}
use Rattle.msb_expand.specs.declared.entry.Entry.{Entry}

-- the identities of entries, without escapes
abbrev pub idents_of : List Entry → List Text
idents_of entries = map (λ entry. unescaped entry.item.ident) entries

abbrev pub patterns_of : Path → List Entry → Result (List Reading) Cause
patterns_of project entries = all_ok (pattern_of project) (filter is_pattern_entry entries)

abbrev pub names_of : Path → List Entry → Result ItemNames Cause
names_of project entries = map_ok
    (λ patterns. record { idents = idents_of entries; patterns = patterns })
    (patterns_of project entries)

-- an item is named by its identity without escapes
abbrev pub is_named : Path → ItemNames → Item → Bool
is_named project found item = names.is_named (folder_of project) found (unescaped item.ident)
