use Rattle.trial_set.proofs.Ordered.{no_tree}
use Rattle.trial_set.proofs.sets.tree_of.Goals as goal

pub unreachable-requires : goal.unreachable-requires
unreachable-requires c =
    no_tree c.loop-path.files c.args.set.entries _ c.in-None.ensures.steps.0 c.loop-path.invariant
    c.into_iter-path-iterator.ensures.into_iter_gives.5 (λ e. c.in-None-of.ensures.exact.1 e)
