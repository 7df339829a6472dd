-- Items as a task is handed them, and as they are taken from it. (MSBuild special characters; Task
-- element)
use Rattle.std.specs.Prelude.{ℕ, List, [], map}
use Rattle.msb_laws.specs.Words.{Text}
use Rattle.msb_values.specs.Escapes.{escaped, unescaped}
use Rattle.msb_values.specs.Pairs.{all_put}
use Rattle.msb_values.specs.declared.item.Item.{Item}

-- a change of an item's texts: its identity and the values of its metadata, and not its
-- RecursiveDir, which no task sees
abbrev pub with_texts : (Text → Text) → Item → Item
with_texts change item = record {
  ident = change item.ident;
  recursive = item.recursive;
  meta = all_put [] (map (λ pair. (pair.0, change pair.1)) item.meta);
}

-- a task is handed its texts without escapes, and what it gives is escaped as it is taken
abbrev pub handed_item : Item → Item
handed_item item = with_texts unescaped item

abbrev pub taken_item : Item → Item
taken_item item = with_texts escaped item
