use Rattle.std.proofs.Common.{◌≡◌}
use Rattle.std.specs.Prelude.{replicate}
use Rattle.target_order.proofs.array.SharedArray.of.Given as goal

abbrev pub invariant-loop : goal.invariant-loop
invariant-loop g l = l.chunks ≡ replicate l.counter l.chunk
