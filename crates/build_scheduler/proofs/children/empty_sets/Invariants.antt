use Rattle.std.proofs.Common.{◌≡◌, map, take}
use Rattle.build_scheduler.specs.Children.{empty_set}
use Rattle.build_scheduler.proofs.children.empty_sets.Given as goal

abbrev pub invariant-loop-call : goal.invariant-loop-call
invariant-loop-call l = l.sets.items ≡ map empty_set (take l._call-index l.calls)
