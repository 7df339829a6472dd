use Rattle.std.proofs.Common.{drop, take}
use Rattle.build_meaning.specs.History.{AreOfOthers}
use Rattle.build_scheduler.proofs.drivers.are_of_others.Given as goal

abbrev pub invariant-loop-at : goal.invariant-loop-at
invariant-loop-at l = AreOfOthers l.id (drop l.number (take l.at l.events))
