use Rattle.std.proofs.Common.{◌≡◌, vec_len}
use Rattle.engine_tests.proofs.refusing.count_tools.Given as goal

abbrev pub invariant-loop : goal.invariant-loop
invariant-loop g l = vec_len l.counted ≡ l.counter
