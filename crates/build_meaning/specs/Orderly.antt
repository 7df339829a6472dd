-- What the records and journals of every legal history are like.
use Rattle.std.specs.Prelude.{ℕ, ◌≡◌, List, [], ◌∷◌, map, Some}
use Rattle.result_cache.specs.declared.run.RunId.{RunId}
use Rattle.result_cache.specs.declared.record.Record.{Record}
use Rattle.build_meaning.specs.declared.event.Event.{Event}
use Rattle.build_meaning.specs.declared.event.Event.TheVariants.{Claim, Result}
use Rattle.build_meaning.specs.declared.event.ClaimKind.TheVariants.{Go}
use Rattle.result_cache.specs.Lists.{In}
use Rattle.build_meaning.specs.Lists.{at, Paired}
use Rattle.result_cache.specs.Journal.{Journal, ended}
use Rattle.result_cache.specs.Table.{FinishedRun, found, BegunRun}
use Rattle.result_cache.specs.Replay.{IsClosed, replay}
pub use Rattle.result_cache.specs.Same.{AreDistinct}
use Rattle.build_meaning.specs.State.{RequestState, State}

-- the runs that events begin, the last one first, in front of others
abbrev pub begun_by : List Event → List RunId → List RunId
begun_by [] runs = runs
begun_by (Claim id run Go ∷ events) runs = begun_by events (run ∷ runs)
begun_by (event ∷ events) runs = begun_by events runs

-- the runs that events finish, the last one first, in front of others
abbrev pub finished_by : List Event → List RunId → List RunId
finished_by [] runs = runs
finished_by (Result id run ∷ events) runs = finished_by events (run ∷ runs)
finished_by (event ∷ events) runs = finished_by events runs

-- each run is begun at most once and finished at most once, by the events that say so, and is begun
-- where it is finished; the records of a request's journal are those of the table, and the journal
-- is closed
pub record IsOrderly {P I A : Type 0} (events : List Event) (s : State P I A) : Type 0 where
  pub begun : map (λ (b : BegunRun). b.run) s.begun ≡ begun_by events []
  pub begun_once : AreDistinct (begun_by events [])
  pub finished : map (λ (f : FinishedRun). f.run) s.table ≡ finished_by events []
  pub finished_once : AreDistinct (finished_by events [])
  pub begun_where_finished : (run : RunId) → In run (finished_by events [])
      → In run (begun_by events [])
  pub shared : (id : ℕ) (q : RequestState P I A) → at s.requests id ≡ Some q →
      (run : RunId) (made : Record) → In (ended run made) q.journal → found s.table run ≡ Some made
  pub closed : (id : ℕ) (q : RequestState P I A) → at s.requests id ≡ Some q → IsClosed q.journal

-- the record of a run stays: every later use of the run gives the one record of its Result, and
-- replays it alike in every journal
abbrev pub RecordsStay : {P I A : Type 0} → State P I A → State P I A → Type 0
RecordsStay before now = (run : RunId) (made : Record) → found before.table run ≡ Some made →
    (found now.table run ≡ Some made)
    × ((journal : Journal) → replay now.table run journal ≡ replay before.table run journal)

-- a request that comes from where it came from, with the journal and the runs that it had
pub record HasSameRuns {P I A : Type 0} (before now : RequestState P I A) : Type 0 where
  pub origin : now.origin ≡ before.origin
  pub journal : now.journal ≡ before.journal
  pub runs : now.runs ≡ before.runs

-- the same requests have begun the same runs, the same records are there and the same uses of
-- tools, and each request has the same runs
pub record SameRuns {P I A : Type 0} (before now : State P I A) : Type 0 where
  pub begun : now.begun ≡ before.begun
  pub table : now.table ≡ before.table
  pub tools_used : now.tools_used ≡ before.tools_used
  pub requests : Paired HasSameRuns before.requests now.requests
