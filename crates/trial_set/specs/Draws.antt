-- The numbers that are drawn one after the other, and the projects that they choose. (This engine's
-- own generator)
use Rattle.std.specs.Prelude.{
  ℕ,
  zero,
  suc,
  ◌+◌,
  ◌*◌,
  ◌-◌,
  ◌/◌,
  ◌%◌,
  ◌^◌,
  ◌==◌,
  List,
  [],
  ◌∷◌,
  fold,
  if◌then◌else◌,
}
use Rattle.std.specs.BTreeSet.{insert_key}
use Rattle.std.specs.Ordering.{nat_cmp}

-- the state after a draw
abbrev pub next_state : ℕ → ℕ
next_state state = (state * 6364136223846793005 + 1442695040888963407) % 2 ^ 64

-- what the draw answers that has led to a state
abbrev pub answer_of : ℕ → ℕ
answer_of state = state / 2 ^ 33

-- numbers, and the state after their draws
pub record Drawn : Type 0 where
  pub numbers : List ℕ
  pub state : ℕ

-- so many draws, each of a number from 1 to the one before i
abbrev pub drawn : ℕ → ℕ → ℕ → Drawn
drawn i zero state = record { numbers = []; state = state }
drawn i (suc count) state =
    let next = next_state state in
    let more = drawn i count next in
    record { numbers = (1 + answer_of next % (i - 1)) ∷ more.numbers; state = more.state }

-- each once, and rising
abbrev pub distinct : List ℕ → List ℕ
distinct numbers = fold (insert_key nat_cmp) [] numbers

-- the projects that project i calls, by one draw that gives how many draws there are, and these
abbrev pub calls_drawn : ℕ → ℕ → Drawn
calls_drawn i state =
    let next = next_state state in
    let d = drawn i (answer_of next % 4) next in
    record { numbers = distinct d.numbers; state = d.state }

-- project 1 calls none
abbrev pub calls_of : ℕ → ℕ → Drawn
calls_of i state = if i == 1 then record { numbers = []; state = state } else calls_drawn i state
