use Rattle.std.proofs.Common.{sym, subst}
use Rattle.msb_instance.specs.Kept.{AreEvaluated}
use Rattle.msb_outcomes.proofs.work.evaluate_root.Goals as goal

pub get-requires-clause-kept : goal.get-requires-clause-kept
get-requires-clause-kept c =
    subst (AreEvaluated c.args.tree.now.files) (sym c.new-instances.ensures) (tt, tt)
