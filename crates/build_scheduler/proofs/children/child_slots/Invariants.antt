use Rattle.std.proofs.Common.{take}
use Rattle.build_meaning.specs.Lists.{Paired}
use Rattle.build_scheduler.specs.Children.{IsChildSlot}
use Rattle.build_scheduler.proofs.children.child_slots.Given as goal

abbrev pub invariant-loop-key : goal.invariant-loop-key
invariant-loop-key g l =
    let m = g.W.Walker in
    Paired (IsChildSlot m.seen (m.seen l.walk)) l.slots.items (take l.key-index l.calls)
