-- An evaluated project, line by line. (MSBuild command-line reference; MSBuild properties; MSBuild
-- items; MSBuild item definitions.)
use Rattle.std.specs.Prelude.{List, [], ◌++◌, codes}
use Rattle.std.specs.List.{flat_map}
use Rattle.std.specs.Option.{unwrap_or}
use Rattle.msb_laws.specs.Words.{Name, Pairs, Path, Text}
use Rattle.msb_values.specs.Escapes.{unescaped}
use Rattle.msb_values.specs.Overlays.{overlaid}
use Rattle.msb_values.specs.Pairs.{value_at}
use Rattle.msb_values.specs.declared.item.Item.{Item}
use Rattle.msb_values.specs.declared.scope.Scope.{Scope}
use Rattle.build_report.specs.Line.{line}

-- a name and its value, unescaped
abbrev pub named_value : Name × Text → Text
named_value pair = pair.0 ++ codes "=" ++ unescaped pair.1

abbrev pub property_line : Name × Text → Text
property_line pair = line (codes "property " ++ named_value pair)

-- an item's type and its identity, unescaped
abbrev pub item_line : Name → Item → Text
item_line kind item = line (codes "item " ++ kind ++ codes " " ++ unescaped item.ident)

abbrev pub metadata_line : Name × Text → Text
metadata_line pair = line (codes "  " ++ named_value pair)

-- an item, and its metadata: its own, and the defaults of its type that it does not have itself
abbrev pub item_lines : Name → Pairs → Item → Text
item_lines kind defaults item =
    item_line kind item ++ flat_map metadata_line (overlaid defaults item.meta)

-- the items of a type
abbrev pub list_lines : List (Name × Pairs) → Name × List Item → Text
list_lines defaults list =
    flat_map (item_lines list.0 (unwrap_or (value_at list.0 defaults) [])) list.1

-- an import that was ignored, since its file was there already
abbrev pub duplicate_line : Path → Text
duplicate_line path = line (codes "duplicate " ++ path)

-- the properties, the items of each type and the ignored imports
abbrev pub eval_text : Scope → List Path → Text
eval_text scope duplicates =
    flat_map property_line scope.props
    ++ flat_map (list_lines scope.defaults) scope.items
    ++ flat_map duplicate_line duplicates
