use Rattle.std.proofs.Common.{◌≡◌, ◌++◌}
use Rattle.target_incremental.specs.Decisions.{old_items}
use Rattle.target_incremental.proofs.decision.old_items.Given as goal

abbrev pub invariant-loop-input : goal.invariant-loop-input
invariant-loop-input l =
    l.old ++ old_items l.view l.input-iterator.a.a.rest.now l.input-iterator.a.b.rest.now
    l.input-iterator.b.rest.now ≡ old_items l.view l.inputs l.outputs l.items
