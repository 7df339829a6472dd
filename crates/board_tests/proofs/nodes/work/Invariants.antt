use Rattle.std.proofs.Common.{◌≡◌, false}
use Rattle.board_tests.proofs.nodes.work.Given as goal

abbrev pub invariant-loop : goal.invariant-loop
invariant-loop g l = (l.seat.has_state ≡ false) × (l.seat.board ≡ l.initial.seat.board)
    × (l.seat.share ≡ l.initial.seat.share)
