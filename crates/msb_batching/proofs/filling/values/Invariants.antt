use Rattle.std.proofs.Common.{◌≡◌, ◌++◌, drop, length}
use Rattle.msb_batching.specs.Buckets.{values_of}
use Rattle.msb_batching.proofs.filling.values.Given as goal

abbrev pub invariant-loop-reference : goal.invariant-loop-reference
invariant-loop-reference l = l.values ++ values_of (drop (length l.yielded) l.references)
    (drop (length l.yielded) l.tuple) ≡ values_of l.references l.tuple
