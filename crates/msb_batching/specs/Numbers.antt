-- The items of batched lists by the numbers of their tuples, in order of first appearance.
use Rattle.std.specs.Prelude.{◌≡◌, ℕ, zero, suc, List, [], ◌∷◌, ◌++◌, map, fold}
use Rattle.std.specs.List.{position_or_len}
use Rattle.msb_laws.specs.Words.{Text, Name}
use Rattle.indexmap.specs.IndexSet.{insert_key, insert_all}
use Rattle.msb_values.specs.Folded.{folded_bytes}
use Rattle.msb_values.specs.declared.item.Item.{Item}
use Rattle.msb_batching.specs.declared.numbered.Numbered.{Numbered}
use Rattle.msb_batching.specs.declared.numbered.NumberedList.{NumberedList}
use Rattle.msb_batching.specs.declared.tuples.Tuples.{Tuples}
use Rattle.msb_batching.specs.Buckets.{is_same_tuple}

abbrev pub tuples_in : Tuples → List (List Text)
tuples_in tuples = tuples.spelled.items

abbrev pub folded_tuple : List Text → List Text
folded_tuple tuple = map folded_bytes tuple

-- the keys are these tuples, folded
abbrev pub IsKeyed : Tuples → Type 0
IsKeyed tuples = map (λ key. key.items) tuples.keys.keys ≡ map folded_tuple (tuples_in tuples)

abbrev pub numbered_of : Numbered → Item × ℕ
numbered_of numbered = (numbered.item, numbered.number)

abbrev pub numbered_list_of : NumberedList → Name × List (Item × ℕ)
numbered_list_of list = (list.kind, map numbered_of list.items.items)

abbrev pub rows_tuples : List (Item × List Text) → List (List Text)
rows_tuples rows = map (λ row. row.1) rows

-- the tuples, and those of these rows behind them
abbrev pub with_rows : List (List Text) → List (Item × List Text) → List (List Text)
with_rows tuples rows = insert_all is_same_tuple tuples (rows_tuples rows)

-- and of these lists
abbrev pub with_batches : List (List Text) → List (Name × List (Item × List Text))
    → List (List Text)
with_batches tuples batches = fold (λ so_far batch. with_rows so_far batch.1) tuples batches

-- an item has the first place of its tuple, or the next
abbrev pub numbered_from : List (List Text) → List (Item × List Text) → List (Item × ℕ)
numbered_from tuples [] = []
numbered_from tuples (row ∷ rows) = (row.0, position_or_len (is_same_tuple row.1) tuples)
    ∷ numbered_from (insert_key is_same_tuple tuples row.1) rows

abbrev pub lists_from : List (List Text) → List (Name × List (Item × List Text))
    → List (Name × List (Item × ℕ))
lists_from tuples [] = []
lists_from tuples (batch ∷ batches) = (batch.0, numbered_from tuples batch.1)
    ∷ lists_from (with_rows tuples batch.1) batches

-- behind the list of this number
abbrev pub put_at : ℕ → Item → List (List Item) → List (List Item)
put_at n item [] = []
put_at zero item (list ∷ lists) = (list ++ item ∷ []) ∷ lists
put_at (suc n) item (list ∷ lists) = list ∷ put_at n item lists

-- each item to the list of its number
abbrev pub spread_over : List (List Item) → List (Item × ℕ) → List (List Item)
spread_over lists numbered = fold (λ so_far item. put_at item.1 item.0 so_far) lists numbered
