-- Consistent tables: each record is what the body of its run makes, where each nested run is not
-- made but taken from the table.
use Rattle.std.specs.Prelude.{ℕ, ◌≡◌, List, [], ◌∷◌, ◌++◌, length, Option, Some}
use Rattle.msb_laws.specs.Asking.{and_then}
use Rattle.result_cache.specs.declared.run.RunId.{RunId}
use Rattle.result_cache.specs.declared.request.RequestKey.{RequestKey}
use Rattle.result_cache.specs.declared.request.RequestResult.{RequestResult}
use Rattle.result_cache.specs.declared.record.Record.{Record}
use Rattle.build_meaning.specs.declared.event.Event.{Event}
use Rattle.build_meaning.specs.declared.event.Event.TheVariants.{Claim}
use Rattle.build_meaning.specs.declared.event.ClaimKind.TheVariants.{Go}
use Rattle.build_meaning.specs.Lists.{at}
use Rattle.result_cache.specs.Journal.{Journal, acted, add, merge}
use Rattle.result_cache.specs.Table.{Records, found}
use Rattle.result_cache.specs.Replay.{replay}
use Rattle.build_meaning.specs.World.{World}
use Rattle.build_meaning.specs.Walk.{Walk, gives, wants, Body, makes, does, uses, calls}
use Rattle.build_meaning.specs.SoFar.{
  SoFar,
  nothing_yet,
  with_act,
  with_tool,
  with_calls,
  recorded,
  result_of,
}
use Rattle.build_meaning.specs.State.{walking, assigned, RequestState, State}
use Rattle.build_meaning.specs.History.{IsHistory}

module _ {P I A : Type 0} (w : World P I A) (table : Records) where
  -- a request from here on, with its runs so far: its result, and the journal then
  abbrev pub walk_by : Walk P I A → Journal → List RunId → Option (RequestResult × Journal)
  walk_by (gives reply) journal runs = Some (result_of reply runs, journal)
  walk_by (wants site run b go) journal runs =
      and_then (found table run)
      (λ made. and_then (replay table run journal)
      (λ next. walk_by (go made next) next (runs ++ run ∷ [])))

  -- a request of this key, by its caller's journal
  abbrev pub request_by : Journal → RequestKey → Option (RequestResult × Journal)
  request_by journal key = walk_by (w.walks key journal) journal []

  -- calls made at once: each begins with the caller's journal, and what they leave is merged in
  -- call order
  abbrev pub calls_by : Journal → Journal → List RequestKey → Option (List RequestResult × Journal)
  calls_by journal merged [] = Some ([], merged)
  calls_by journal merged (key ∷ keys) =
      and_then (request_by journal key)
      (λ x. and_then (calls_by journal (merge merged x.1) keys) (λ y. Some (x.0 ∷ y.0, y.1)))

  -- the body of a run, which has done so far: its record, and the journal then
  abbrev pub body_by : RunId → Body I A → Journal → SoFar I → Option (Record × Journal)
  body_by run (makes outcome) journal so_far = Some (recorded outcome so_far.segments, journal)
  body_by run (does act go) journal so_far =
      let next : Journal = add journal (acted run (length so_far.segments) act) in body_by run
      (go next) next (with_act so_far act)
  body_by run (uses name input go) journal so_far = body_by run (go (w.tools name input)) journal
      (with_tool so_far name input)
  body_by run (calls key keys go) journal so_far =
      and_then (calls_by journal journal (key ∷ keys))
      (λ y. body_by run (go y.0 y.1) y.1 (with_calls so_far (key ∷ keys) y.0))

-- among the events a Claim answered Go began the run: its request wanted it with this body, and had
-- this journal
pub record BegunIn {P I A : Type 0} (w : World P I A) (events : List Event) (run : RunId)
    (b : Body I A) (from : Journal) : Type 0 where
  pub before : List Event
  pub later : List Event
  pub state : State P I A
  pub id : ℕ
  pub node : ℕ
  pub request : RequestState P I A
  pub site : P
  pub go : Record → Journal → Walk P I A
  pub events_so : before ++ Claim id run Go ∷ later ≡ events
  pub history : IsHistory w before state
  pub there : at state.requests id ≡ Some request
  pub wants_so : request.status ≡ assigned node (walking (wants site run b go))
  pub journal_so : request.journal ≡ from

-- each record is what the body of its run makes by the records that were finished before it, from
-- the journal with which it was begun
abbrev pub IsConsistent : {P I A : Type 0} → World P I A → List Event → Records → Type 0
IsConsistent w events [] = Unit {0}
IsConsistent {P} {I} {A} w events (f ∷ table) =
    ((b : Body I A) × (from : Journal) × (last : Journal) × BegunIn w events f.run b from
    × (body_by w table f.run b from nothing_yet ≡ Some (f.made, last)))
    × IsConsistent w events table
