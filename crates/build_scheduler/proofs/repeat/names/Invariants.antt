use Rattle.std.proofs.Common.{◌≡◌, take}
use Rattle.build_scheduler.proofs.repeat.names.Given as goal

abbrev pub invariant-loop-run : goal.invariant-loop-run
invariant-loop-run l = l.all.items ≡ take l.run-index l.runs
