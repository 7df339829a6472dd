-- An item of a reference, as the steps hand it on.
use Rattle.std.specs.Prelude.{option_copied}
use Rattle.msb_values.specs.declared.item.Item.{Item}
use Rattle.msb_expand.specs.declared.seen.Seen.{Seen}
use Rattle.msb_values.specs.Overlays.{overlaid}
use Rattle.msb_expand.specs.Scenes.{pairs_or_none}
use Rattle.msb_expand.specs.CowTexts.{cow_text}

abbrev pub seen_item : Seen → Item
seen_item seen = record {
  ident = cow_text seen.ident;
  recursive = seen.recursive.now;
  meta = overlaid
      (pairs_or_none (option_copied seen.defaults)) (pairs_or_none (option_copied seen.meta));
}
