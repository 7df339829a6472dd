-- What each step on a board tells: of the seat before, the number found and the seat after.
use Rattle.std.specs.Prelude.{◌≡◌, ◌≢◌, ℕ, ◌/◌, ◌%◌, true, ◌≤◌, List, [], ◌∷◌, length, Option, Some}
use mathlib.Core.List.{IsPrefix}
use Rattle.atomic_table.specs.Table.{Me, Step}
use Rattle.turn_board.specs.declared.view.View.{View}
use Rattle.turn_board.specs.Views.{after_take, after_give, after_miss}

module _ {S W E : Type 0} (world_of : S → W) (history_of : S → List E) where
  abbrev pub Place : Type 0
  Place = Me (Option S) (View W E)

  -- the seat has the state out, and has seen its whole history, which continues what it saw before
  abbrev pub TakesState : Place → Place → Type 0
  TakesState m n = (state : S) × (n ≡ (after_take m.0 (history_of state), (0, Some state) ∷ []))
      × (m.0.world ≡ Some (world_of state)) × IsPrefix m.0.seen (history_of state)

  -- an even number was found, and the seat has the state out; or an odd one, and its misses rise,
  -- which is not so where it has all shares
  abbrev pub TakeTells : Step (Option S) → Place → ℕ → Place → Type 0
  TakeTells st m found n = (found % 2 ≡ 0 → TakesState m n)
      × (found % 2 ≢ 0 → n ≡ (after_miss m.0, m.1)) × (m.0.share ≡ 128 → found % 2 ≡ 0)

  -- the state in the seat's slot is home, and the seat has seen its history
  abbrev pub GiveTells : Step (Option S) → Place → ℕ → Place → Type 0
  GiveTells st m new n = (state : S) → m.1 ≡ (0, Some state) ∷ []
      → n ≡ (after_give m.0 (history_of state), [])

  -- the number found is no less than what the seat saw, and is just that if it has the state out,
  -- or all shares; and what it was told of begins what it saw, where it is no longer
  abbrev pub LoadTells : Step (Option S) → Place → ℕ → Place → Type 0
  LoadTells st m found n = (n ≡ m) × (length m.0.seen ≤ found / 2)
      × (m.0.has_state ≡ true → length m.0.seen ≡ found / 2)
      × (m.0.share ≡ 128 → length m.0.seen ≡ found / 2)
      × (length m.0.shorter_seen ≤ length m.0.seen → IsPrefix m.0.shorter_seen m.0.seen)
