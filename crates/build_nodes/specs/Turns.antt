-- What a node has between two of its turns, by the history that it has seen. (Building projects in
-- parallel)
use Rattle.std.specs.Prelude.{◌≡◌, ◌<◌, ◌^◌, ℕ, List, length, false, true, Option, None, Some}
use mathlib.Core.List.{IsPrefix}
use Rattle.result_cache.specs.Table.{Records}
use Rattle.build_meaning.specs.declared.event.Event.{Event}
use Rattle.build_meaning.specs.World.{World}
use Rattle.build_scheduler.specs.declared.walker.Answer.{Answer}
use Rattle.build_scheduler.specs.Own.{Seen, IsOut, IsOwn}
use Rattle.build_scheduler.specs.Position.{Position, ask_of, answered}
use Rattle.build_scheduler.specs.Ready.{IsAssignedTo}
use Rattle.build_nodes.specs.declared.turn.Asking.{Asking}
use Rattle.build_nodes.specs.declared.turn.Answered.{Answered}
use Rattle.build_nodes.specs.declared.turn.Brought.{Brought}
use Rattle.build_nodes.specs.declared.turn.Brought.TheVariants.{Nothing, Walk, Refused}
use Rattle.build_nodes.specs.declared.turn.Next.{Next}
use Rattle.build_nodes.specs.declared.turn.Next.TheVariants.{Missed, Advance, Park}
use Rattle.build_nodes.specs.Leaving.{has_left}
use Rattle.build_nodes.specs.Marked.{marked}

-- the number of events when the node had the core last
abbrev pub number_of : {W : Type 0} → Brought W → ℕ
number_of (Nothing number) = number
number_of (Walk a) = a.number
number_of (Refused a) = a.number

module _ {W P I A : Type 0} (seen : W → Seen P I A) (earlier : W → Option (Position P I A × ℕ))
  where
    -- once its last answer is taken back, the walk is its request's own, and this is its next
    -- answer
    pub record CanGoBack (w : World P I A) (events : List Event) (table : Records) (id : ℕ)
        (walk : W)
        (answer : Answer) : Type 0 where
      pub position : Position P I A
      pub asked : ℕ
      pub stood : earlier walk ≡ Some (position, asked)
      pub out : IsOut w events table id
          (record {
            world = (seen walk).world;
            position = position;
            asked = asked;
            learnt = (seen walk).learnt;
          }) answer

module _ {W P I A : Type 0} (seen : W → Seen P I A) (earlier : W → Option (Position P I A × ℕ))
    (node : ℕ) (w : World P I A) (past : List (Option Event)) where
  -- when the history had this number, the node had not retired
  pub record IsIdle (number : ℕ) : Type 0 where
    pub events : List Event
    pub number_is : number ≡ length events
    pub begins : IsPrefix (marked events None) past
    pub active : has_left node (marked events None) ≡ false

  -- besides, the walk was its request's own, with its next answer, for which it has learnt enough;
  -- and the request was with this node
  pub record IsAnswered (a : Answered W) : Type 0 where
    pub events : List Event
    pub table : Records
    pub number : a.number ≡ length events
    pub few : length events < 2 ^ 63
    pub begins : IsPrefix (marked events None) past
    pub active : has_left node (marked events None) ≡ false
    pub here : IsAssignedTo w events a.id node
    pub out : IsOut w events table a.id (seen a.walk) a.answer
    pub table_is : out.stands.state.table ≡ table
    pub enough : answered w (seen a.walk).learnt (seen a.walk).position a.answer ≡ Some out.next

  -- besides, the walk was its request's own, and it asks this; and the request was with this node
  pub record IsAsking (a : Asking W) : Type 0 where
    pub events : List Event
    pub table : Records
    pub number : a.number ≡ length events
    pub begins : IsPrefix (marked events None) past
    pub active : has_left node (marked events None) ≡ false
    pub here : IsAssignedTo w events a.id node
    pub own : IsOwn w events table a.id (seen a.walk)
    pub back : CanGoBack seen earlier w events table a.id a.walk a.answer
    pub table_is : own.stands.state.table ≡ table
    pub asks : ask_of (seen a.walk).position ≡ a.ask

  -- what a node brings to its turn: only a walk that was its request's own
  abbrev pub IsBrought : Brought W → Type 0
  IsBrought (Nothing number) = ∥ IsIdle number ∥₁
  IsBrought (Walk a) = ∥ IsAsking a ∥₁
  IsBrought (Refused a) = ∥ IsAnswered a ∥₁

  -- what a node does after its turn, unless it leaves: it brings the same again, advances a walk,
  -- or parks at the number that it has seen
  abbrev pub IsNext : Option (Next W) → Type 0
  IsNext None = has_left node past ≡ true
  IsNext (Some (Missed brought)) = IsBrought brought
  IsNext (Some (Advance a)) = ∥ IsAnswered a ∥₁
  IsNext (Some (Park number)) = (number ≡ length past) × ∥ IsIdle number ∥₁
