use Rattle.std.proofs.Common.{take}
use Rattle.target_order.specs.Table.{AreHooked}
use Rattle.target_order.proofs.hooks.HookLists.add.Given as goal

abbrev pub invariant-loop-name : goal.invariant-loop-name
invariant-loop-name l = AreHooked l.turn l.row (take l.name-index l.named) l.numbers
    l.initial.self.lists.items l.self.lists.items l.self.turns.items
