-- What is true of requests with nodes, while events come in any order.
use Rattle.std.specs.Prelude.{◌≡◌, ℕ, List, ◌++◌, length}
use Rattle.result_cache.specs.Table.{Records}
use Rattle.build_meaning.specs.World.{World}
use Rattle.build_meaning.specs.declared.event.Event.{Event}
use Rattle.build_scheduler.specs.Own.{Seen, IsOwn}
use Rattle.build_scheduler.specs.Position.{ask_of}
use Rattle.build_scheduler.specs.declared.walker.Ask.{Ask}

-- when there were so many events, the walk was its request's own
pub record WasOwn {P I A : Type 0} (w : World P I A) (events : List Event) (id number : ℕ)
    (walk : Seen P I A) : Type 0 where
  pub before : List Event
  pub more : List Event
  pub table : Records
  pub number_is : number ≡ length before
  pub continues : events ≡ before ++ more
  pub own : IsOwn w before table id walk
  pub table_is : own.stands.state.table ≡ table

-- and it asks this
abbrev pub IsAsking : {P I A : Type 0} → World P I A → List Event → ℕ → ℕ → Seen P I A → Ask →
    Type 0
IsAsking w events id number walk ask = (ask_of walk.position ≡ ask)
    × ∥ WasOwn w events id number walk ∥₁
