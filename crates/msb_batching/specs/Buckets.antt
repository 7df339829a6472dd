-- The buckets of an element: one for each tuple that its batched items have. (MSBuild batching)
use Rattle.std.specs.Prelude.{
  Bool,
  List,
  [],
  ◌∷◌,
  map,
  filter,
  fold,
  Option,
  Some,
  None,
  Result,
  Err,
}
use Rattle.std.specs.List.{flat_map}
use Rattle.std.specs.BTreeMap.{insert_entry}
use Rattle.std.specs.Ordering.{nat_cmp}
use Rattle.std.specs.Cmp.Lexicographic.{slice_cmp, pointwise}
use Rattle.msb_laws.specs.Words.{Text, Name}
use Rattle.msb_values.specs.Same.{is_same_text}
use Rattle.msb_values.specs.declared.item.Item.{Item}
use Rattle.msb_expression.specs.declared.expression.Expr.{Expr}
use Rattle.msb_expand.specs.declared.lens.Bucket.{Bucket}
use Rattle.msb_laws.specs.Results.{map_ok}
use Rattle.msb_expand.specs.Scenes.{Scene}
use Rattle.msb_batching.specs.declared.faults.BatchFault.{BatchFault}
use Rattle.msb_batching.specs.declared.faults.BatchFault.TheVariants.{NoList}
use Rattle.msb_batching.specs.declared.reference.Reference.{Reference}
use Rattle.msb_batching.specs.Distinct.{distinct}
use Rattle.msb_batching.specs.References.{Spoken, spoken, listless}
use Rattle.msb_batching.specs.Values.{batches_of}

-- tuples are compared without case
abbrev pub is_same_tuple : List Text → List Text → Bool
is_same_tuple a b = pointwise is_same_text a b

-- the items of a tuple
abbrev pub kept : List Text → List (Item × List Text) → List Item
kept tuple rows = map (λ row. row.0) (filter (λ row. is_same_tuple row.1 tuple) rows)

-- a list that a bucket sees, put beside those that it has
abbrev pub with_list : List Text → List (Name × List Item)
    → Name × List (Item × List Text) → List (Name × List Item)
with_list tuple lists batch = insert_entry (slice_cmp nat_cmp) lists batch.0 (kept tuple batch.1)

-- each reference with its value
abbrev pub values_of : List Reference → List Text → List (Option Name × Name × Text)
values_of [] tuple = []
values_of (reference ∷ references) [] = []
values_of (reference ∷ references) (value ∷ tuple) = (reference.kind, reference.name, value)
    ∷ values_of references tuple

-- the bucket of a tuple sees of each batched list the items of this tuple
abbrev pub bucket_of : List Reference → List (Name × List (Item × List Text)) → List Text → Bucket
bucket_of references batches tuple = record
    { values = values_of references tuple; lists = fold (with_list tuple) [] batches }

-- the tuples, or this one where there is none
abbrev pub or_this : List Text → List (List Text) → List (List Text)
or_this empty [] = empty ∷ []
or_this empty (tuple ∷ tuples) = tuple ∷ tuples

-- the tuples in their first spelling, in order of first appearance, or the one whose values are
-- empty
abbrev pub tuples_of : List Reference → List (Name × List (Item × List Text)) → List (List Text)
tuples_of references batches = or_this (map (λ reference. []) references)
    (distinct is_same_tuple (flat_map (λ batch. map (λ row. row.1) batch.1) batches))

abbrev pub buckets_of : List Reference → List (Name × List (Item × List Text)) → List Bucket
buckets_of references batches = map (bucket_of references batches) (tuples_of references batches)

-- a reference that no type qualifies is refused where no list is named
abbrev pub if_listed : {X : Type 0} → Option Name → Result X BatchFault → Result X BatchFault
if_listed None answer = answer
if_listed (Some name) answer = Err (NoList name)

-- the buckets of an element that speaks of this
abbrev pub batched_value : Scene → Spoken → Result (List Bucket) BatchFault
batched_value scene s = map_ok (buckets_of s.references) (batches_of scene s)

-- the buckets of an element that has these texts, and of an item element its own type
abbrev pub buckets_value : Scene → List Expr → Option Name → Result (List Bucket) BatchFault
buckets_value scene texts own =
    let s = spoken texts own in
    if_listed (listless s) (batched_value scene s)
