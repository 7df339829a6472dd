use Rattle.std.proofs.Common.{◌≡◌, map, take}
use Rattle.msb_batching.specs.Filling.{bucket_begun}
use Rattle.msb_batching.proofs.filling.begin_buckets.Given as goal

abbrev pub invariant-loop-tuple : goal.invariant-loop-tuple
invariant-loop-tuple l = l.buckets.items ≡ map (bucket_begun l.references)
    (take l.tuple-index l.tuples)
