use Rattle.std.proofs.Common.{◌≡◌, ◌+◌, false, vec_len, All}
use Rattle.board_tests.specs.Ready.{IsReady}
use Rattle.board_tests.proofs.nodes.join_all.Given as goal

abbrev pub decreases-loop-other : goal.decreases-loop-other
decreases-loop-other l = vec_len l.all

abbrev pub invariant-loop-other : goal.invariant-loop-other
invariant-loop-other l =
    (l.seat.board ≡ l.initial.seat.board) × (l.seat.world ≡ l.initial.seat.world)
    × (l.seat.has_state ≡ false)
    × (l.seat.share + vec_len l.all ≡ l.initial.seat.share + vec_len l.initial.all)
    × All (IsReady l.initial.seat.board) l.all.items
