use Rattle.build_scheduler.specs.Free.{AreFree}
use Rattle.build_scheduler.proofs.cycle.are_free.Given as goal

abbrev pub invariant-loop-i : goal.invariant-loop-i
invariant-loop-i g l = AreFree l.slots.items l.making.items l.first l.i
