use Rattle.std.proofs.Common.{◌≡◌, ◌++◌, map}
use Rattle.std.specs.Vec.Iter.{into_iter_items}
use Rattle.msb_batching.specs.Numbers.{
  tuples_in,
  IsKeyed,
  with_batches,
  numbered_list_of,
  lists_from,
}
use Rattle.msb_batching.specs.Rows.{pairs_of}
use Rattle.msb_batching.proofs.tuples.Tuples.number_lists.Given as goal

abbrev pub invariant-loop-batch : goal.invariant-loop-batch
invariant-loop-batch l = record {
  keyed : IsKeyed l.self;
  tuples : with_batches (tuples_in l.self) (map pairs_of (into_iter_items l.batch-iterator))
      ≡ with_batches (tuples_in l.fn.self) (map pairs_of l.fn.batches.items);
  numbers :
      map numbered_list_of l.lists.items ++ lists_from (tuples_in l.self)
      (map pairs_of (into_iter_items l.batch-iterator))
      ≡ lists_from (tuples_in l.fn.self) (map pairs_of l.fn.batches.items);
}
