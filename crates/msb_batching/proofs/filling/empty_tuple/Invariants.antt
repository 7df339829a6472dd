use Rattle.std.proofs.Common.{◌≡◌, [], map, take}
use Rattle.msb_batching.proofs.filling.empty_tuple.Given as goal

abbrev pub invariant-loop-reference : goal.invariant-loop-reference
invariant-loop-reference l = l.tuple ≡ map (λ reference. []) (take l._reference-index l.references)
