-- Which items the code finds named.
use Rattle.std.specs.Prelude.{List, [], ◌∷◌, Bool, true, false, not, filter}
use Rattle.msb_laws.specs.Words.{Text, Path}
use Rattle.msb_values.specs.Escapes.{unescaped}
use Rattle.msb_values.specs.declared.item.Item.{Item}
use Rattle.msb_expand.specs.Reserved.{folder_of}
use Rattle.msb_glob.specs.FoldedNames as names
use Rattle.msb_glob.specs.Parsed.{Reading}

abbrev pub is_named_by : Path → List Text × List Reading → Item → Bool
is_named_by project found item = names.is_named_by (folder_of project) found (unescaped item.ident)

-- the items that none of these names
abbrev pub unnamed_by : Path → List Text × List Reading → List Item → List Item
unnamed_by project found items = filter (λ item. not (is_named_by project found item)) items

abbrev pub item_unless : Bool → Item → List Item
item_unless true item = []
item_unless false item = item ∷ []
