-- The rows of the code as pairs of an item and its tuple.
use Rattle.std.specs.Prelude.{List, map}
use Rattle.msb_laws.specs.Words.{Text, Name}
use Rattle.msb_values.specs.declared.item.Item.{Item}
use Rattle.msb_batching.specs.declared.rows.Row.{Row}
use Rattle.msb_batching.specs.declared.rows.Batch.{Batch}

abbrev pub row_of : Row → Item × List Text
row_of row = (row.item, row.tuple)

abbrev pub pairs_of : Batch → Name × List (Item × List Text)
pairs_of batch = (batch.kind, map row_of batch.rows.items)
