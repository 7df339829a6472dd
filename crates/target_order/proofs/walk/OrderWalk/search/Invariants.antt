use Rattle.target_order.specs.Search.{GoesOn, weight}
use Rattle.target_order.proofs.walk.OrderWalk.search.Given as goal

abbrev pub invariant-loop-next : goal.invariant-loop-next
invariant-loop-next l = GoesOn l.self l.fn.from l.cursor

abbrev pub decreases-loop-next : goal.decreases-loop-next
decreases-loop-next l = weight l.cursor
