use Rattle.std.proofs.Common.{vec_len}
use Rattle.build_nodes.specs.Seats.{IsSeated}
use Rattle.build_nodes.proofs.Joining.{IsJoining}
use Rattle.build_nodes.proofs.nodes.run_each.Given as goal

abbrev pub decreases-loop-node : goal.decreases-loop-node
decreases-loop-node g l = vec_len l.all

abbrev pub invariant-loop-node : goal.invariant-loop-node
invariant-loop-node g l = IsJoining (λ n. IsSeated l.initial.seat.board n.seat) (λ n. n.number)
    l.initial.seat l.seat l.initial.all.items l.all.items (vec_len l.initial.all) (vec_len l.all)
