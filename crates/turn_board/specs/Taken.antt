-- What `Board::take` answers.
use Rattle.turn_board.specs.declared.board.Taken.{Taken}
use Rattle.turn_board.specs.declared.board.Taken.TheVariants.{State, Held}

-- the fact, where the state was taken
abbrev pub IfTaken : {S : Type 0} → Taken S → (S → Type 0) → Type 0
IfTaken (State s) P = P s
IfTaken Held P = Unit {0}

abbrev pub IfHeld : {S : Type 0} → Taken S → Type 0 → Type 0
IfHeld (State s) P = Unit {0}
IfHeld Held P = P
