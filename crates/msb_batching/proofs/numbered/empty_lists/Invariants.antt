use Rattle.std.proofs.Common.{◌≡◌, [], map, take}
use Rattle.msb_batching.proofs.numbered.empty_lists.Given as goal

abbrev pub invariant-loop-tuple : goal.invariant-loop-tuple
invariant-loop-tuple l = l.lists.items ≡ map (λ tuple. []) (take l._tuple-index l.tuples)
