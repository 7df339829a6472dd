-- The board's rule: what is true of its word, its slot and all views between any two steps.
use Rattle.std.specs.Prelude.{◌≡◌, ℕ, ◌+◌, ◌*◌, ◌<◌, ◌⊎◌, true, List, [], ◌∷◌, length, Option, Some}
use mathlib.Core.List.{IsPrefix}
use mathlib.Core.Option.{Option as Maybe, some, none}
use lib.ListN.{get_elem?}
use Rattle.atomic_table.specs.Table.{State}
use Rattle.turn_board.specs.declared.view.View.{View}
use Rattle.turn_board.specs.Views.{spent_view, out_count}

-- the numbers of all members, added up
abbrev pub total : {A : Type 0} → (A → ℕ) → List A → ℕ
total f [] = 0
total f (x ∷ xs) = f x + total f xs

-- what a view knows is true where the board's world and history are these
pub record ViewIsTrue {W E : Type 0} (world : W) (now : List E) (v : View W E) : Type 0 where
  pub world_is : v.world ≡ Some world
  pub share_left : 0 < v.share
  pub seen_begins : IsPrefix v.seen now
  pub shorter_begins : IsPrefix v.shorter_seen now
  pub out_sees_all : v.has_state ≡ true → v.seen ≡ now

abbrev pub AllViewsAreTrue : {W E : Type 0} → W → List E → List (View W E) → Type 0
AllViewsAreTrue {W} {E} world now views = (at : ℕ) (v : View W E) → get_elem? views at ≡ some v
    → (v ≡ spent_view) ⊎ ViewIsTrue world now v

-- some view that is not spent has seen the whole history
pub record OneSeesAll {W E : Type 0} (now : List E) (views : List (View W E)) : Type 0 where
  pub at : ℕ
  pub view : View W E
  pub here : get_elem? views at ≡ some view
  pub share_left : 0 < view.share
  pub whole : view.seen ≡ now

-- the word is one more than twice the number of events, and one view has the state out
pub record StateIsOut {S W E : Type 0} (now : List E) (words : List ℕ)
    (homes : List (Maybe (Option S))) (views : List (View W E)) : Type 0 where
  pub word : words ≡ (2 * length now + 1) ∷ []
  pub slot : homes ≡ none ∷ []
  pub one_out : total out_count views ≡ 1

module _ {S W E : Type 0} (world_of : S → W) (history_of : S → List E) where
  -- the word is twice the number of events, the state is at home with them, and no view has it out
  pub record StateIsHome (world : W) (now : List E) (words : List ℕ)
      (homes : List (Maybe (Option S))) (views : List (View W E)) : Type 0 where
    pub state : S
    pub word : words ≡ (2 * length now) ∷ []
    pub slot : homes ≡ some (Some state) ∷ []
    pub world_is : world_of state ≡ world
    pub history_is : history_of state ≡ now
    pub none_out : total out_count views ≡ 0
    pub sees_all : OneSeesAll now views

  -- the board was opened with a state of this world, and its history is now `now`
  pub record BoardRule (world : W) (s : State (Option S) (View W E)) : Type 0 where
    pub now : List E
    pub all_true : AllViewsAreTrue world now s.views
    pub shares : total (λ v. v.share) s.views ≡ 128
    pub place : StateIsHome world now s.words s.homes s.views
        ⊎ StateIsOut now s.words s.homes s.views
