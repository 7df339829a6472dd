-- Requests that wait for their calls, and what is still to come in the order of demand from where
-- each stands. (MSBuild task)
use Rattle.std.specs.Prelude.{◌≡◌, ◌-◌, ℕ, suc, false, List, [], ◌∷◌, ◌++◌, length, map, Some}
use Rattle.result_cache.specs.declared.run.RunId.{RunId}
use Rattle.result_cache.specs.declared.request.RequestKey.{RequestKey}
use Rattle.result_cache.specs.declared.request.RequestResult.{RequestResult}
use Rattle.result_cache.specs.declared.record.Record.{Record}
use Rattle.result_cache.specs.Journal.{Journal, end_of, ended, has, add, merge}
use Rattle.result_cache.specs.Replay.{Effect, replays_run, effects_from, replays, replay}
use Rattle.result_cache.specs.Table.{Records}
use Rattle.build_meaning.specs.World.{World}
use Rattle.build_meaning.specs.Walk.{Walk, Body}
use Rattle.build_meaning.specs.SoFar.{SoFar, with_calls, runs_of}
use Rattle.build_meaning.specs.Meaning.{deepest, at_once, body, walk, request}
use Rattle.build_meaning.specs.State.{Within, Place, walking, within}
use Rattle.build_meaning.specs.Stands.{body_of}
use Rattle.build_meaning.specs.Stop.{asks}
use Rattle.build_scheduler.specs.Position.{Position}
use Rattle.build_steady.specs.Order.{
  DemandEvent,
  body_ends,
  then_comes,
  order_of_calls,
  order_of_body,
  order_of_walk,
  order_of_request,
}

-- a request whose body makes calls: its journal as it began, as the body began, and as the calls
-- are made; the runs before; the body that it is in; the calls, and how the body goes on by their
-- results; the results so far, the journal with what those calls have left, and the calls to come
pub record Waiting (P I A : Type 0) : Type 0 where
  pub start : Journal
  pub begun : Journal
  pub journal : Journal
  pub runs : List RunId
  pub inside : Within P I A
  pub key : RequestKey
  pub keys : List RequestKey
  pub go_on : List RequestResult → Journal → Body I A
  pub results : List RequestResult
  pub merged : Journal
  pub left : List RequestKey

-- with the result of one more call, and with what it has left
abbrev pub told : {P I A : Type 0} → Waiting P I A → RequestResult → Journal → Waiting P I A
told c result left = record {
  start = c.start;
  begun = c.begun;
  journal = c.journal;
  runs = c.runs;
  inside = c.inside;
  key = c.key;
  keys = c.keys;
  go_on = c.go_on;
  results = c.results ++ result ∷ [];
  merged = merge c.merged left;
  left = c.left;
}

-- with these calls to come
abbrev pub with_left : {P I A : Type 0} → Waiting P I A → List RequestKey → Waiting P I A
with_left c left = record {
  start = c.start;
  begun = c.begun;
  journal = c.journal;
  runs = c.runs;
  inside = c.inside;
  key = c.key;
  keys = c.keys;
  go_on = c.go_on;
  results = c.results;
  merged = c.merged;
  left = left;
}

-- where it stands
abbrev pub waits_at : {P I A : Type 0} → Waiting P I A → Position P I A
waits_at c = record {
  journal = c.journal;
  runs = c.runs;
  place = within c.inside (asks c.key c.keys c.go_on);
}

-- below these callers, the innermost first: the runs in whose bodies a request is called, how many
-- may be nested below it, and the journal with which it begins
abbrev pub path_of : {P I A : Type 0} → List (Waiting P I A) → List RunId
path_of [] = []
path_of (c ∷ callers) = c.inside.run ∷ path_of callers

abbrev pub depth_below : {P I A : Type 0} → List (Waiting P I A) → ℕ
depth_below callers = deepest - suc (length callers)

abbrev pub start_of : {P I A : Type 0} → List (Waiting P I A) → Journal
start_of [] = []
start_of (c ∷ callers) = c.journal

-- what comes after a request, by its result and its journal
abbrev pub Next : Type 0
Next = RequestResult → Journal → List DemandEvent

module _ {P I A : Type 0} (w : World P I A) where
  -- what is to come of a request from here on, and then what comes after it
  abbrev pub rest_of_walk : ℕ → List RunId → Walk P I A → Journal → List RunId → Next →
      List DemandEvent
  rest_of_walk depth path x journal runs next =
      order_of_walk w (order_of_request w depth) (request w depth) path x journal
      ++ then_comes (walk w (request w depth) path x journal runs) next

  -- what is to come of a body, then its end, and then what is to come of its request
  abbrev pub rest_of_body : ℕ → List RunId → RunId → Body I A → Journal → SoFar I →
      (Record → Journal → Walk P I A) → List RunId → Next → List DemandEvent
  rest_of_body depth path run b journal so_far go runs next =
      order_of_body w (order_of_request w depth (run ∷ path)) (request w depth (run ∷ path)) run b
      journal so_far
      ++ then_comes (body w (request w depth (run ∷ path)) run b journal so_far) (λ m left.
      body_ends run m.0 ∷ rest_of_walk depth path (go m.0 (add left (ended run m.0)))
      (add left (ended run m.0)) (runs ++ run ∷ []) next)

  -- what is to come of calls, and then what comes after them
  abbrev pub rest_of_calls : ℕ → List RunId → Journal → Journal → List RequestKey →
      (List RequestResult → Journal → List DemandEvent) → List DemandEvent
  rest_of_calls depth path journal merged keys next =
      order_of_calls (order_of_request w depth path) (request w depth path) journal keys
      ++ then_comes (at_once w (request w depth path) journal merged keys) next

  -- what is to come where a request stands
  abbrev pub rest_of_place : ℕ → List RunId → Journal → List RunId → Place P I A → Next →
      List DemandEvent
  rest_of_place depth path journal runs (walking x) next =
      rest_of_walk depth path x journal runs next
  rest_of_place depth path journal runs (within x stop) next =
      rest_of_body depth path x.run (body_of stop) journal x.so_far x.go runs next

  -- what is to come of the body of a caller once it has the results of its calls
  abbrev pub rest_by : ℕ → List RunId → Next → Waiting P I A → List RequestResult → Journal →
      List DemandEvent
  rest_by depth path next c results after =
      rest_of_body depth path c.inside.run (c.go_on results after) after (with_calls c.inside.so_far
      (c.key ∷ c.keys) results) c.inside.go c.runs next

  -- what is to come of a caller's calls, and then of its body
  abbrev pub rest_of_caller : ℕ → List RunId → Next → Waiting P I A → List DemandEvent
  rest_of_caller depth path next c =
      rest_of_calls depth (c.inside.run ∷ path) c.journal c.merged c.left (λ more after.
      rest_by depth path next c (c.results ++ more) after)

  -- what comes after a request that is called by the first of these
  abbrev pub after_call : List (Waiting P I A) → Next
  after_call [] result left = []
  after_call (c ∷ callers) result left = rest_of_caller (depth_below callers) (path_of callers)
      (λ told_result after. after_call callers told_result after) (told c result left)

  -- all that is to come where a request stands below some callers
  abbrev pub rest_below : List (Waiting P I A) → Position P I A → List DemandEvent
  rest_below callers p = rest_of_place (depth_below callers) (path_of callers) p.journal p.runs
      p.place (after_call callers)

  -- all that is to come of a caller below others, and then of these
  abbrev pub rest_from : List (Waiting P I A) → Waiting P I A → List DemandEvent
  rest_from callers c =
      rest_of_caller (depth_below callers) (path_of callers) (after_call callers) c

-- effects put into the first journal, by a table of records, give the second
abbrev pub HasReplayed : Records → List Effect → Journal → Journal → Type 0
HasReplayed table effects before after = replays (replay table) effects before ≡ Some after

-- the runs before a body, from the journal that the request began with; the body's run has not
-- ended then; and what the body has done so far
pub record IsInBody {I : Type 0} (table : Records) (start begun journal : Journal)
    (runs : List RunId) (run : RunId) (so_far : SoFar I) : Type 0 where
  pub before : HasReplayed table (map replays_run runs) start begun
  pub fresh : has (end_of run) begun ≡ false
  pub done : HasReplayed table (effects_from run 0 so_far.segments) begun journal

-- where a request stands its journal is got from the one that it began with by replaying its runs,
-- and in a body by what the body has done
abbrev pub HasReplayedAt : {P I A : Type 0} → Records → Journal → Journal → List RunId →
    Place P I A →
    Type 0
HasReplayedAt table start journal runs (walking x) =
    HasReplayed table (map replays_run runs) start journal
HasReplayedAt table start journal runs (within x stop) =
    (begun : Journal) × IsInBody table start begun journal runs x.run x.so_far

-- so it is with a caller, and what its calls have left is got by replaying their runs
pub record HasReplayedCalls {P I A : Type 0} (table : Records) (c : Waiting P I A) : Type 0 where
  pub inside : IsInBody table c.start c.begun c.journal c.runs c.inside.run c.inside.so_far
  pub called : HasReplayed table (map replays_run (runs_of c.results)) c.journal c.merged

-- and so with callers that call each other, the first by the second and so on
abbrev pub HaveReplayed : {P I A : Type 0} → Records → List (Waiting P I A) → Type 0
HaveReplayed table [] = Unit {0}
HaveReplayed table (c ∷ callers) =
    HasReplayedCalls table c × (c.start ≡ start_of callers) × HaveReplayed table callers
