use Rattle.std.proofs.Common.{◌≡◌, length}
use Rattle.build_scheduler.proofs.children.no_results.Given as goal

abbrev pub invariant-loop-call : goal.invariant-loop-call
invariant-loop-call l = length l.results.items ≡ l._call-index
