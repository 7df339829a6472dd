use Rattle.std.proofs.Common.{◌≡◌, false}
use Rattle.once_table.proofs.table.take.Given as goal

abbrev pub invariant-loop : goal.invariant-loop
invariant-loop g l = (l.seat.board ≡ l.initial.seat.board) × (l.seat.world ≡ l.initial.seat.world)
    × (l.seat.share ≡ l.initial.seat.share) × (l.seat.has_state ≡ false)
