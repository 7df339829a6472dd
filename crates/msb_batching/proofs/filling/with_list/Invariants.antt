use Rattle.std.proofs.Common.{◌≡◌, ◌++◌}
use Rattle.std.specs.Vec.Iter.{into_iter_items}
use Rattle.msb_batching.specs.Filling.{put_beside}
use Rattle.msb_batching.proofs.filling.with_list.Given as goal

abbrev pub invariant-loop-bucket : goal.invariant-loop-bucket
invariant-loop-bucket l =
    l.filled.items ++ put_beside l.kind (into_iter_items l.bucket-iterator)
    (into_iter_items l.lists) ≡ put_beside l.kind l.fn.buckets.items l.fn.lists.items
