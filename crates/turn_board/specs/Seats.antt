-- A seat as contracts see it.
use Rattle.std.specs.Prelude.{◌≡◌, ℕ, ◌<◌, Bool, true, false, List, [], ◌∷◌, Option, Some, None}
use Rattle.atomic_table.specs.Seated.{TableId}
use Rattle.atomic_table.specs.Table.{Me}
use Rattle.turn_board.specs.declared.view.View.{View}

-- which board it is of, and what it knows
pub record SeatFacts (W E : Type 0) : Type 0 where
  pub board : TableId
  pub world : Option W
  -- the history that the seat last saw
  pub seen : List E
  pub share : ℕ
  pub has_state : Bool
  -- how many of its takes found the state out with another seat
  pub misses : ℕ

abbrev pub seat_facts : {W E : Type 0} → TableId → View W E → SeatFacts W E
seat_facts board v = record {
  board = board;
  world = v.world;
  seen = v.seen;
  share = v.share;
  has_state = v.has_state;
  misses = v.misses;
}

-- the seat is not spent, and has the slot, empty, exactly where it has the state out
abbrev pub HasSlotWhereOut : {S W E : Type 0} → Me (Option S) (View W E) → Type 0
HasSlotWhereOut me = (0 < me.0.share) × (me.0.has_state ≡ true → me.1 ≡ (0, None) ∷ [])
    × (me.0.has_state ≡ false → me.1 ≡ [])

-- the seat that a board is opened with
abbrev pub opening_seat : {W E : Type 0} → TableId → W → List E → SeatFacts W E
opening_seat board world history = record {
  board = board;
  world = Some world;
  seen = history;
  share = 128;
  has_state = false;
  misses =
      0;
}
