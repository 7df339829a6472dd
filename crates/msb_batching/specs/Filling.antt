-- Buckets, to which their items of one list after another are given.
use Rattle.std.specs.Prelude.{ℕ, List, [], ◌∷◌, map, fold, Option, Some, None}
use Rattle.std.specs.BTreeMap.{insert_entry}
use Rattle.std.specs.Ordering.{nat_cmp}
use Rattle.std.specs.Cmp.Lexicographic.{slice_cmp}
use Rattle.msb_laws.specs.Words.{Text, Name}
use Rattle.msb_values.specs.declared.item.Item.{Item}
use Rattle.msb_expand.specs.declared.lens.Bucket.{Bucket}
use Rattle.msb_batching.specs.declared.reference.Reference.{Reference}
use Rattle.msb_batching.specs.Buckets.{values_of}
use Rattle.msb_batching.specs.Numbers.{spread_over}

abbrev pub bucket_begun : List Reference → List Text → Bucket
bucket_begun references tuple = record { values = values_of references tuple; lists = [] }

abbrev pub with_items : Name → Bucket → Option (List Item) → Bucket
with_items kind bucket (Some items) = record
    { values = bucket.values; lists = insert_entry (slice_cmp nat_cmp) bucket.lists kind items }
with_items kind bucket None = bucket

-- to each bucket its list
abbrev pub put_beside : Name → List Bucket → List (List Item) → List Bucket
put_beside kind [] lists = []
put_beside kind (bucket ∷ buckets) [] = with_items kind bucket None ∷ put_beside kind buckets []
put_beside kind (bucket ∷ buckets) (items ∷ lists) = with_items kind bucket (Some items)
    ∷ put_beside kind buckets lists

-- of each list in turn
abbrev pub filled_with : List (List Text) → List Bucket → List (Name × List (Item × ℕ))
    → List Bucket
filled_with tuples buckets lists = fold
    (λ so_far list. put_beside list.0 so_far (spread_over (map (λ tuple. []) tuples) list.1))
    buckets lists

abbrev pub buckets_by : List Reference → List (List Text) → List (Name × List (Item × ℕ))
    → List Bucket
buckets_by references tuples lists = filled_with tuples (map (bucket_begun references) tuples) lists
