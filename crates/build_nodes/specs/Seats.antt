-- What is true of a node's seat between two of its turns, and at its end.
use Rattle.std.specs.Prelude.{◌≡◌, ℕ, zero, suc, List, [], ◌∷◌, true, false, is_some, Option}
use Rattle.atomic_table.specs.Seated.{TableId}
use Rattle.build_meaning.specs.declared.event.Event.{Event}
use Rattle.build_nodes.specs.Leaving.{has_left}
use Rattle.turn_board.specs.Seats.{SeatFacts}

-- it is of this board, with one share, knows the board's world, and has not the core out
abbrev pub IsSeated : {W : Type 0} → TableId → SeatFacts W (Option Event) → Type 0
IsSeated board seat = (seat.board ≡ board) × (seat.has_state ≡ false) × (seat.share ≡ 1)
    × (is_some seat.world ≡ true)

-- the node of this number has left by what its seat has seen: the end is told, or it has retired
abbrev pub HasLeft : {W : Type 0} → ℕ → SeatFacts W (Option Event) → Type 0
HasLeft node seat = has_left node seat.seen ≡ true

-- so many numbers, the last one first
abbrev pub numbers_below : ℕ → List ℕ
numbers_below zero = []
numbers_below (suc n) = n ∷ numbers_below n
