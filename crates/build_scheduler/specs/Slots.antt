-- What a core holds of each request, by the state of the scheduler that it shows.
use Rattle.std.specs.Prelude.{
  ◌≡◌,
  ◌≤◌,
  ◌<◌,
  ◌+◌,
  ℕ,
  suc,
  List,
  [],
  ◌∷◌,
  length,
  map,
  Option,
  None,
  Some,
}
use Rattle.msb_laws.specs.Asking.{and_then}
use Rattle.result_cache.specs.declared.run.RunId.{RunId}
use Rattle.result_cache.specs.declared.request.RequestKey.{RequestKey}
use Rattle.result_cache.specs.declared.request.RequestResult.{RequestResult}
use Rattle.result_cache.specs.declared.record.Record.{Record}
use Rattle.result_cache.specs.Journal.{Journal}
use Rattle.result_cache.specs.Table.{Records, found, BegunRun, request_of}
use Rattle.build_meaning.specs.Lists.{at, numbered_from}
use Rattle.build_meaning.specs.World.{World}
use Rattle.build_meaning.specs.Walk.{Walk, wants, Body}
use Rattle.build_meaning.specs.Stop.{asks}
use Rattle.build_meaning.specs.State.{
  Within,
  Place,
  walking,
  within,
  Status,
  ready,
  assigned,
  waits,
  calling,
  done,
  Origin as Asked,
  RequestState,
  State,
}
use Rattle.build_scheduler.specs.declared.walker.Answer.{Answer}
use Rattle.build_scheduler.specs.declared.slot.Origin.{Origin}
use Rattle.build_scheduler.specs.declared.slot.Slot.{Slot}
use Rattle.build_scheduler.specs.declared.slot.Slot.TheVariants.{
  Ready,
  Assigned,
  Waiting,
  Calling,
  Done,
}
use Rattle.build_scheduler.specs.Position.{Position, answered, IsInTurn}
use Rattle.build_scheduler.specs.Learnt.{ArePartOf}
use Rattle.build_scheduler.specs.Own.{Seen, placed}

-- whose request it is: its key, who calls it, and how many requests call each other down to it
abbrev pub origin_from : Asked → Origin
origin_from o = record { key = o.key; parent = o.parent; depth = length o.path }

abbrev pub origin_of : {P I A : Type 0} → RequestState P I A → Origin
origin_of q = origin_from q.origin

-- the run in whose body a request is
abbrev pub run_in : {P I A : Type 0} → Place P I A → Option RunId
run_in (walking walk) = None
run_in (within x stop) = Some x.run

abbrev pub run_at : {P I A : Type 0} → Status P I A → Option RunId
run_at (ready place) = run_in place
run_at (assigned node place) = run_in place
run_at (waits run b go) = None
run_at (calling keys ids x go) = Some x.run
run_at (done result) = None

abbrev pub making_of : {P I A : Type 0} → RequestState P I A → Option RunId
making_of q = run_at q.status

-- the result that a request of this number has, if it is there and done
abbrev pub result_in : {P I A : Type 0} → Status P I A → Option RequestResult
result_in (done result) = Some result
result_in status = None

abbrev pub result_at : {P I A : Type 0} → List (RequestState P I A) → ℕ → Option RequestResult
result_at requests id = and_then (at requests id) (λ q. result_in q.status)

-- results of calls as they come: those that are there stand at their places, and so many are open
abbrev pub AreSoFar : List (Option RequestResult) → List RequestResult → ℕ → Type 0
AreSoFar [] [] open_calls = open_calls ≡ 0
AreSoFar (Some told ∷ others) (result ∷ results) open_calls = (result ≡ told)
    × AreSoFar others results open_calls
AreSoFar (None ∷ others) (result ∷ results) (suc open_calls) = AreSoFar others results open_calls
AreSoFar others results open_calls = ⊥

-- how many events a request still needs room for: its Assign where it is to come, its Result where
-- it is in a body, and its Done
abbrev pub owed_in : {P I A : Type 0} → Place P I A → ℕ
owed_in (walking walk) = 1
owed_in (within x stop) = 2

abbrev pub owed : {P I A : Type 0} → Status P I A → ℕ
owed (ready place) = suc (owed_in place)
owed (assigned node place) = owed_in place
owed (waits run b go) = 2
owed (calling keys ids x go) = 3
owed (done result) = 0

abbrev pub owed_by : {P I A : Type 0} → List (RequestState P I A) → ℕ
owed_by [] = 0
owed_by (q ∷ requests) = owed q.status + owed_by requests

-- the runs that are begun and not finished
abbrev pub begun_if : Option Record → BegunRun → List BegunRun → List BegunRun
begun_if None b begun = b ∷ begun
begun_if (Some made) b begun = begun

abbrev pub unfinished : Records → List BegunRun → List BegunRun
unfinished table [] = []
unfinished table (b ∷ begun) = begun_if (found table b.run) b (unfinished table begun)

module _ {P I A : Type 0} (w : World P I A) (s : State P I A) (count : ℕ) where
  -- a walk that stands there and waits to be answered, after so many events
  pub record Stands (walk : Seen P I A) (p : Position P I A) : Type 0 where
    pub world : walk.world ≡ w
    pub learnt : ArePartOf walk.learnt s.table
    pub position : walk.position ≡ p
    pub asked : 0 < walk.asked
    pub few : walk.asked ≤ count

  -- a walk that its next answer takes there
  pub record Goes (walk : Seen P I A) (answer : Answer) (p : Position P I A) : Type 0 where
    pub world : walk.world ≡ w
    pub learnt : ArePartOf walk.learnt s.table
    pub goes : answered w s.table walk.position answer ≡ Some p
    pub turn : IsInTurn walk.asked answer
    pub few : walk.asked ≤ count

  -- a ready request: its walk, and the answer that takes it to where it stands
  pub record ShowsReady (walk : Seen P I A) (answer : Answer) (q : RequestState P I A) : Type 0
    where
      pub position : Position P I A
      pub goes : Goes walk answer position
      pub is : q ≡ placed q.origin position ready

  -- a request with this node
  pub record ShowsAssigned (node : ℕ) (q : RequestState P I A) : Type 0 where
    pub place : Place P I A
    pub is : q.status ≡ assigned node place

  -- a request that waits for a run: its walk, and the request that has begun the run
  pub record ShowsWaiting (walk : Seen P I A) (by : ℕ) (q : RequestState P I A) : Type 0 where
    pub run : RunId
    pub site : P
    pub body : Body I A
    pub go : Record → Journal → Walk P I A
    pub is : q.status ≡ waits run body go
    pub stands : Stands walk
        (record { journal = q.journal; runs = q.runs; place = walking (wants site run body go) })
    pub begun : request_of (unfinished s.table s.begun) run ≡ Some by

  -- a request whose calls are open: its walk, the number of the first child, and the results so far
  pub record ShowsCalling (walk : Seen P I A) (first : ℕ) (open_calls : ℕ)
      (results : List RequestResult) (q : RequestState P I A) : Type 0 where
    pub key : RequestKey
    pub keys : List RequestKey
    pub inside : Within P I A
    pub go : List RequestResult → Journal → Body I A
    pub is : q.status ≡ calling (key ∷ keys) (numbered_from first (key ∷ keys)) inside go
    pub stands : Stands walk
        (record { journal = q.journal; runs = q.runs; place = within inside (asks key keys go) })
    pub so_far : AreSoFar (map (result_at s.requests) (numbered_from first (key ∷ keys))) results
        open_calls

  -- a request that is over
  pub record ShowsDone (q : RequestState P I A) : Type 0 where
    pub result : RequestResult
    pub is : q.status ≡ done result

  abbrev pub ShowsSlot : {W : Type 0} → (W → Seen P I A) → Slot W → RequestState P I A → Type 0
  ShowsSlot seen (Ready walk answer) q = ShowsReady (seen walk) answer q
  ShowsSlot seen (Assigned node) q = ShowsAssigned node q
  ShowsSlot seen (Waiting walk by) q = ShowsWaiting (seen walk) by q
  ShowsSlot seen (Calling calls) q = ShowsCalling (seen calls.walk) calls.first calls.«open»
      calls.results.items q
  ShowsSlot seen Done q = ShowsDone q

-- a node has the request of the slot
abbrev pub IsWithNode : {W : Type 0} → Option (Slot W) → Type 0
IsWithNode (Some (Assigned node)) = Unit {0}
IsWithNode slot = ⊥
