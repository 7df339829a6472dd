use Rattle.std.proofs.Common.{sym, subst}
use Rattle.msb_instance.specs.Kept.{AreEvaluated}
use Rattle.msb_outcomes.proofs.world_with_instances.WorldWithInstances.of_world.Goals as goal

pub invariant_of-result : goal.invariant_of-result
invariant_of-result c = subst (AreEvaluated c.args.world.tree.files) (sym c.new.ensures) (tt, tt)
