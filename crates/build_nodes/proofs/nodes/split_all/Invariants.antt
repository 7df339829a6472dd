use Rattle.std.proofs.Common.{◌≡◌, ◌+◌, ◌-◌, ◌++◌, map, vec_len, vec_capacity, All}
use Rattle.std.specs.Prelude.{IsSomeAnd}
use Rattle.build_nodes.specs.Seats.{IsSeated, numbers_below}
use Rattle.build_nodes.proofs.nodes.split_all.Given as goal

abbrev pub decreases-loop-place : goal.decreases-loop-place
decreases-loop-place g l = vec_len l.places

abbrev pub invariant-loop-place : goal.invariant-loop-place
invariant-loop-place g l =
    (l.seat ≡ record l.initial.seat { share = l.initial.seat.share - vec_len l.all })
    × (vec_len l.all + vec_len l.places ≡ vec_len l.initial.places)
    × (vec_capacity l.all ≡ vec_capacity l.initial.all)
    × All (λ n. IsSeated l.initial.seat.board n.seat) l.all.items
    × (map (λ n. n.number) l.all.items ++ numbers_below (vec_len l.places)
    ≡ numbers_below (vec_len l.initial.places))
    × IsSomeAnd l.initial.seat.world (λ first. All (λ place. g.W.Walker.Fits place
    (g.W.Walker.world_of first.world)) l.places.items)
