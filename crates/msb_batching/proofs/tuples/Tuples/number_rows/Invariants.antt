use Rattle.std.proofs.Common.{◌≡◌, ◌++◌, map}
use Rattle.std.specs.Vec.Iter.{into_iter_items}
use Rattle.msb_batching.specs.Numbers.{tuples_in, IsKeyed, with_rows, numbered_of, numbered_from}
use Rattle.msb_batching.specs.Rows.{row_of}
use Rattle.msb_batching.proofs.tuples.Tuples.number_rows.Given as goal

abbrev pub invariant-loop-row : goal.invariant-loop-row
invariant-loop-row l = record {
  keyed : IsKeyed l.self;
  tuples : with_rows (tuples_in l.self) (map row_of (into_iter_items l.row-iterator))
      ≡ with_rows (tuples_in l.fn.self) (map row_of l.fn.rows.items);
  numbers :
      map numbered_of l.items.items ++ numbered_from (tuples_in l.self)
      (map row_of (into_iter_items l.row-iterator))
      ≡ numbered_from (tuples_in l.fn.self) (map row_of l.fn.rows.items);
}
