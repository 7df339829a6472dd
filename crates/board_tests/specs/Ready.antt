-- What is true of a node's seat between two of its turns.
use Rattle.std.specs.Prelude.{◌≡◌, ℕ, false}
use Rattle.atomic_table.specs.Seated.{TableId}
use Rattle.turn_board.specs.Seats.{SeatFacts}

-- it is of this board, has one share, and has not the list out
abbrev pub IsReady : TableId → SeatFacts ℕ ℕ → Type 0
IsReady board seat = (seat.board ≡ board) × (seat.has_state ≡ false) × (seat.share ≡ 1)
