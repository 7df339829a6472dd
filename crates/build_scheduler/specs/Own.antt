-- A walk that a node has: that it is its request's own, and what its answer makes of it.
use Rattle.std.specs.Prelude.{◌≡◌, ◌≤◌, ◌<◌, ℕ, List, length, Some}
use Rattle.result_cache.specs.Table.{Records}
use Rattle.build_meaning.specs.declared.event.Event.{Event}
use Rattle.build_meaning.specs.Lists.{at}
use Rattle.build_meaning.specs.World.{World}
use Rattle.build_meaning.specs.State.{Place, Status, assigned, Origin, RequestState, State}
use Rattle.build_meaning.specs.History.{IsHistory}
use Rattle.build_scheduler.specs.declared.walker.Ask.{Ask}
use Rattle.build_scheduler.specs.declared.walker.Answer.{Answer}
use Rattle.build_scheduler.specs.Position.{Position, ask_of, answered, IsInTurn}
use Rattle.build_scheduler.specs.Learnt.{ArePartOf}

-- what contracts see of a walk: the world that it is of; where it stands, and what it asks there
-- waits for its answer; how often it has asked; and the records that it has learnt, the last one
-- first
pub record Seen (P I A : Type 0) : Type 0 where
  pub world : World P I A
  pub position : Position P I A
  pub asked : ℕ
  pub learnt : Records

-- a request that stands at a position
abbrev pub placed : {P I A : Type 0} → Origin → Position P I A → (Place P I A → Status P I A)
    → RequestState P I A
placed origin p status = record
    { origin = origin; journal = p.journal; runs = p.runs; status = status p.place }

-- after these events the request is with a node, and stands there
pub record IsWith {P I A : Type 0} (w : World P I A) (events : List Event) (id : ℕ)
    (p : Position P I A) : Type 0 where
  pub state : State P I A
  pub origin : Origin
  pub node : ℕ
  pub history : IsHistory w events state
  pub there : at state.requests id ≡ Some (placed origin p (assigned node))

-- the request is with a node, and asks this
pub record Asks {P I A : Type 0} (w : World P I A) (events : List Event) (id : ℕ) (ask : Ask) : Type
    0 where
  pub position : Position P I A
  pub stands : IsWith w events id position
  pub asks : ask_of position ≡ ask

-- the walk is the request's own: it stands where the request does, and has asked what it asks there
pub record IsOwn {P I A : Type 0} (w : World P I A) (events : List Event) (table : Records) (id : ℕ)
    (walk : Seen P I A) : Type 0 where
  pub stands : IsWith w events id walk.position
  pub world : walk.world ≡ w
  pub learnt : ArePartOf walk.learnt table
  pub asked : 0 < walk.asked
  pub few : walk.asked ≤ length events

-- the walk is the request's own, and this is its next answer: it takes the walk to where the
-- request stands
pub record IsOut {P I A : Type 0} (w : World P I A) (events : List Event) (table : Records) (id : ℕ)
    (walk : Seen P I A) (answer : Answer) : Type 0 where
  pub next : Position P I A
  pub stands : IsWith w events id next
  pub world : walk.world ≡ w
  pub learnt : ArePartOf walk.learnt table
  pub goes : answered w table walk.position answer ≡ Some next
  pub turn : IsInTurn walk.asked answer
  pub few : walk.asked < length events
