-- Items that are there already, as the code looks them up: by their keys in a set.
use Rattle.std.specs.Prelude.{◌≡◌, List, [], ◌∷◌, map, Bool, ◌&&◌, if◌then◌else◌}
use Rattle.std.specs.HashSet.{HashSet, contains}
use Rattle.std.specs.List.{list_any}
use Rattle.std.specs.Str.{bytes_eq}
use Rattle.msb_laws.specs.Words.{Pairs}
use Rattle.msb_values.specs.Equal.{same_pairs}
use Rattle.msb_values.specs.Folded.{folded_bytes}
use Rattle.msb_values.specs.Overlays.{overlaid}
use Rattle.msb_values.specs.declared.item.Item.{Item}
use Rattle.msb_items.specs.declared.repeats.ItemKey.{ItemKey}

abbrev pub key_of : Pairs → Item → ItemKey
key_of defaults item = record
    { ident = folded_bytes item.ident; meta = overlaid defaults item.meta }

abbrev pub same_key : ItemKey → ItemKey → Bool
same_key a b = bytes_eq a.ident b.ident && same_pairs a.meta b.meta

-- a set of just the keys of these items
abbrev pub HasKeys : {S : Type 0} → Pairs → List Item → HashSet ItemKey S → Type 0
HasKeys defaults items set = (key : ItemKey) → contains same_key set key
    ≡ list_any (λ one. same_key one key) (map (key_of defaults) items)

abbrev pub item_if : Bool → Item → List Item
item_if is item = if is then item ∷ [] else []
