-- The places that the meaning of a world passes: where its requests stand between their runs and in
-- bodies, and with which journals. (MSBuild task; Target build order)
use Rattle.std.specs.Prelude.{ℕ, suc, ◌≡◌, ◌+◌, false, List, [], ◌∷◌, ◌++◌, length, None, Some}
use Rattle.result_cache.specs.declared.run.RunId.{RunId}
use Rattle.result_cache.specs.declared.request.RequestKey.{RequestKey}
use Rattle.result_cache.specs.declared.request.RequestResult.{RequestResult}
use Rattle.result_cache.specs.declared.record.Record.{Record}
use Rattle.result_cache.specs.Journal.{Journal, ended, add, record_of}
use Rattle.result_cache.specs.Lists.{In}
use Rattle.result_cache.specs.Same.{is_in}
use Rattle.build_meaning.specs.World.{World}
use Rattle.build_meaning.specs.Walk.{Walk, gives, wants, Body, Outcome, Reply}
use Rattle.build_meaning.specs.SoFar.{nothing_yet, with_calls, recorded, result_of}
use Rattle.build_meaning.specs.Stop.{Stopped, ends, asks, run_on}
use Rattle.build_meaning.specs.Meaning.{Given, deepest, at_once, request}
use Rattle.build_meaning.specs.State.{
  Within,
  Place,
  walking,
  within,
  Status,
  ready,
  assigned,
  waits,
  calling,
  done,
}

-- a request of the meaning: its key, the runs in whose bodies it is called, the last one first, and
-- the journal with which it begins
pub record Called : Type 0 where
  pub key : RequestKey
  pub path : List RunId
  pub base : Journal

-- in the body of a run that has stopped
abbrev pub stopped_in : {P I A : Type 0} → RunId → (Record → Journal → Walk P I A) → Stopped I A →
    Place P I A
stopped_in run go x = within (record { run = run; so_far = x.so_far; go = go }) x.stop

-- the body of a run after its calls
abbrev pub after_calls : {P I A : Type 0} → World P I A → Within P I A → List RequestKey →
    (List RequestResult → Journal → Body I A) → List RequestResult → Journal → Stopped I A
after_calls w x keys go results journal =
    run_on w.tools x.run (go results journal) journal (with_calls x.so_far keys results)

-- the record of a run whose body has come to this end
abbrev pub record_at_end : {P I A : Type 0} → Within P I A → Outcome → Record
record_at_end x outcome = recorded outcome x.so_far.segments

-- the meaning passes this place of a request, which has these runs and this journal there
pub data Passes {P I A : Type 0} (w : World P I A) : Called → List RunId → Journal → Place P I A →
    Type 0 where
  -- the root begins with nothing known
  root : Passes w (record { key = w.root; path = []; base = [] }) [] []
      (walking (w.walks w.root []))
  -- each call begins with its caller's journal
  call : {q : Called} {runs : List RunId} {j : Journal} {x : Within P I A} {first : RequestKey}
      {more : List RequestKey} {go : List RequestResult → Journal → Body I A} (key : RequestKey) →
      Passes w q runs j (within x (asks first more go)) → In key (first ∷ more) →
      Passes w (record { key = key; path = x.run ∷ q.path; base = j }) [] j
      (walking (w.walks key j))
  -- a run that has ended in the journal has its record from there
  known : {q : Called} {runs : List RunId} {j : Journal} {site : P} {r : RunId} {b : Body I A}
      {go : Record → Journal → Walk P I A} (made : Record) →
      Passes w q runs j (walking (wants site r b go)) → record_of j r ≡ Some made →
      Passes w q (runs ++ r ∷ []) j (walking (go made j))
  -- any other run is made, unless it is one of those in whose bodies the request is called; its
  -- body goes on until it stops
  enters : {q : Called} {runs : List RunId} {j : Journal} {site : P} {r : RunId} {b : Body I A}
      {go : Record → Journal → Walk P I A} →
      Passes w q runs j (walking (wants site r b go)) → record_of j r ≡ None →
      is_in r q.path ≡ false →
      Passes w q runs (run_on w.tools r b j nothing_yet).journal
      (stopped_in r go (run_on w.tools r b j nothing_yet))
  -- after its calls the body goes on with what the meaning gives for them
  resumes : {q : Called} {runs : List RunId} {j : Journal} {x : Within P I A} {first : RequestKey}
      {more : List RequestKey} {go : List RequestResult → Journal → Body I A} (depth : ℕ)
      (given : Given P I (List RequestResult)) →
      Passes w q runs j (within x (asks first more go)) → depth + suc (length q.path) ≡ deepest →
      at_once w (request w depth (x.run ∷ q.path)) j j (first ∷ more) ≡ Some given →
      Passes w q runs (after_calls w x (first ∷ more) go given.value given.journal).journal
      (stopped_in x.run x.go (after_calls w x (first ∷ more) go given.value given.journal))
  -- at the end of its body a run has its record, and its end is in the journal
  ends_so : {q : Called} {runs : List RunId} {j : Journal} {x : Within P I A} {outcome : Outcome} →
      Passes w q runs j (within x (ends outcome)) →
      Passes w q (runs ++ x.run ∷ []) (add j (ended x.run (record_at_end x outcome)))
      (walking (x.go (record_at_end x outcome) (add j (ended x.run (record_at_end x outcome)))))

-- the meaning passes where a request stands: its place, wherever it goes on from there; the run
-- that it waits for; its calls; its end
abbrev pub PassesAt : {P I A : Type 0} → World P I A → Called → List RunId → Journal →
    Status P I A → Type 0
PassesAt w q runs j (ready place) = Passes w q runs j place
PassesAt w q runs j (assigned node place) = Passes w q runs j place
PassesAt {P} w q runs j (waits run b go) =
    (site : P) × Passes w q runs j (walking (wants site run b go))
PassesAt w q runs j (calling keys ids x go) =
    (first : RequestKey) × (more : List RequestKey) × (keys ≡ first ∷ more)
    × Passes w q runs j (within x (asks first more go))
PassesAt w q runs j (done result) =
    (reply : Reply) × (result ≡ result_of reply runs) × Passes w q runs j (walking (gives reply))
