use Rattle.std.proofs.Common.{◌≡◌, ◌++◌, map, filter, drop}
use Rattle.msb_batching.specs.References.{batched, is_batched}
use Rattle.msb_batching.specs.Growing.{spoken_of}
use Rattle.msb_batching.proofs.mentions.Mentions.batched_lists.Given as goal

abbrev pub invariant-loop-kind : goal.invariant-loop-kind
invariant-loop-kind l =
    map (λ kind. kind.now) l.kinds.items ++ filter (is_batched (spoken_of l.self))
    (drop l.kind-index l.kind-items) ≡ batched (spoken_of l.self)
