use Rattle.std.proofs.Common.{◌≡◌, map, take, drop}
use Rattle.target_order.specs.declared.visits.OpenVisit.{OpenVisit}
use Rattle.target_order.specs.Progress.{name_at}
use Rattle.target_order.proofs.walk.OrderWalk.circle.Given as goal

abbrev pub invariant-loop-at : goal.invariant-loop-at
invariant-loop-at l = l.names ≡ map (λ (v : OpenVisit). name_at l.self.table v.target)
    (drop l.place (take l.at l.self.visits))
