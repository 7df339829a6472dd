-- Items that are there already. (Item element, KeepDuplicates; Target element,
-- KeepDuplicateOutputs)
use Rattle.std.specs.Prelude.{List, [], ◌∷◌, ◌++◌, Bool, true, false, ◌&&◌}
use Rattle.std.specs.List.{list_any}
use Rattle.msb_laws.specs.Words.{Pairs}
use Rattle.msb_values.specs.Equal.{same_pairs}
use Rattle.msb_values.specs.Overlays.{overlaid}
use Rattle.msb_values.specs.Same.{is_same_text}
use Rattle.msb_values.specs.declared.item.Item.{Item}

-- one identity without case, and the same metadata, by bytes; what an item does not have itself is
-- its type's default
abbrev pub is_repeat : Pairs → Item → Item → Bool
is_repeat defaults other item = is_same_text other.ident item.ident
    && same_pairs (overlaid defaults other.meta) (overlaid defaults item.meta)

-- the items of which no equal one is there, or ahead of them
abbrev pub without_repeats : Pairs → List Item → List Item → List Item
without_repeats defaults there [] = []
without_repeats defaults there (item ∷ items) =
    elim (list_any (λ other. is_repeat defaults other item) there) [
      | true ↦ without_repeats defaults there items
      | false ↦ item ∷ without_repeats defaults (there ++ item ∷ []) items
    ]
