use Rattle.std.proofs.Common.{◌≡◌}
use Rattle.std.specs.Prelude.{IsSomeAnd}
use Rattle.build_nodes.specs.Seats.{IsSeated}
use Rattle.build_nodes.specs.Turns.{IsBrought}
use Rattle.build_nodes.proofs.nodes.work.Given as goal

abbrev pub invariant-loop : goal.invariant-loop
invariant-loop g l =
    let m = g.W.Walker in
    IsSeated l.initial.node.seat.board l.node.seat × (l.node.number ≡ l.initial.node.number)
    × IsSomeAnd l.node.seat.world (λ first. IsBrought m.seen m.earlier l.node.number
    (m.world_of first.world) l.node.seat.seen l.brought)
