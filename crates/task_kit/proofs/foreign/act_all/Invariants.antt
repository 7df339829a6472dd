use Rattle.std.proofs.Common.{◌≡◌}
use Rattle.std.specs.Vec.Iter.{into_iter_items}
use Rattle.task_kit.specs.Foreign.{acted_by_tool}
use Rattle.task_kit.specs.Progress.{made_by}
use Rattle.task_kit.proofs.foreign.act_all.Given as goal

abbrev pub invariant-loop-act : goal.invariant-loop-act
invariant-loop-act l = made_by acted_by_tool l.progress (into_iter_items l.act-iterator)
    ≡ made_by acted_by_tool l.fn.progress l.fn.acts.items
