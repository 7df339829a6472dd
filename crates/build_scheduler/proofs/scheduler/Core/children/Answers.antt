use Rattle.std.proofs.Common.{arith}
use Rattle.build_meaning.specs.Meaning.{deepest}
use Rattle.build_scheduler.proofs.scheduler.Core.children.Goals as goal

pub overflow_add-depth : goal.overflow_add-depth
unfolding deepest
overflow_add-depth g c = omega (arith, c.in_ok-depth.ensures.depth.1)
