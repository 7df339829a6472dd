use Rattle.std.proofs.Common.{◌≡◌, vec_len}
use Rattle.msb_outcomes.proofs.on_nodes.tools_for.Given as goal

abbrev pub invariant-loop : goal.invariant-loop
invariant-loop g l = vec_len l.counted ≡ l.counter
