-- Identities, each behind a separator.
use Rattle.std.specs.Prelude.{List, ◌++◌}
use Rattle.std.specs.List.{flat_map}
use Rattle.msb_laws.specs.Words.{Text}
use Rattle.msb_values.specs.declared.item.Item.{Item}

abbrev pub each_behind : Text → List Item → Text
each_behind separator items = flat_map (λ item. separator ++ item.ident) items
