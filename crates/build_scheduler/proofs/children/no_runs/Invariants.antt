use Rattle.std.proofs.Common.{◌≡◌, map, take}
use Rattle.build_scheduler.specs.Children.{no_run}
use Rattle.build_scheduler.proofs.children.no_runs.Given as goal

abbrev pub invariant-loop-call : goal.invariant-loop-call
invariant-loop-call l = l.runs.items ≡ map no_run (take l._call-index l.calls)
