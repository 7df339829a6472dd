use Rattle.build_scheduler.specs.KeptEnds.{AreFewer}
use Rattle.build_scheduler.proofs.kept.KeptEnds.count.Given as goal

abbrev pub invariant-loop-call : goal.invariant-loop-call
invariant-loop-call g l = AreFewer l.fn.self.instances.items l.self.instances.items
