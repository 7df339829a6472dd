-- What a scheduler holds: its requests and where each stands, the runs that are begun, and the
-- records of those that are finished.
use Rattle.std.specs.Prelude.{ℕ, List, [], ◌∷◌, Option, None}
use Rattle.result_cache.specs.declared.run.RunId.{RunId}
use Rattle.result_cache.specs.declared.request.RequestKey.{RequestKey}
use Rattle.result_cache.specs.declared.request.RequestResult.{RequestResult}
use Rattle.result_cache.specs.declared.record.Record.{Record}
use Rattle.build_meaning.specs.Lists.{put}
use Rattle.result_cache.specs.Journal.{Journal}
use Rattle.result_cache.specs.Table.{Records, BegunRun}
use Rattle.build_meaning.specs.World.{World}
use Rattle.build_meaning.specs.Walk.{Walk, Body}
use Rattle.build_meaning.specs.SoFar.{ToolUse, SoFar}
use Rattle.build_meaning.specs.Stop.{Stop}

-- the body that a request is in: its run, what it has done so far, and how the request goes on
-- after it
pub record Within (P I A : Type 0) : Type 0 where
  pub run : RunId
  pub so_far : SoFar I
  pub go : Record → Journal → Walk P I A

-- where a request stands: between runs, or in a body that has stopped
pub data Place (P I A : Type 0) : Type 0 where
  walking : Walk P I A → Place P I A
  within : Within P I A → Stop I A → Place P I A

-- ready to go on; with a node; waiting for a run that another request has begun; calling, with the
-- numbers of its children; done
pub data Status (P I A : Type 0) : Type 0 where
  ready : Place P I A → Status P I A
  assigned : ℕ → Place P I A → Status P I A
  waits : RunId → Body I A → (Record → Journal → Walk P I A) → Status P I A
  calling : List RequestKey → List ℕ → Within P I A →
      (List RequestResult → Journal → Body I A) → Status P I A
  done : RequestResult → Status P I A

-- what a request asks for, the request that called it, and the runs in whose bodies it was called,
-- the last one first
pub record Origin : Type 0 where
  pub key : RequestKey
  pub parent : Option ℕ
  pub path : List RunId

-- a request: where it comes from, its journal, the runs that it has made or used, and where it
-- stands
pub record RequestState (P I A : Type 0) : Type 0 where
  pub origin : Origin
  pub journal : Journal
  pub runs : List RunId
  pub status : Status P I A

-- a run that is finished, and the tools that its body used
pub record ToolsUsed (I : Type 0) : Type 0 where
  pub run : RunId
  pub tools : List (ToolUse I)

-- requests have the numbers of their places, and the root is 0. In the other lists the newest is
-- first. All runs that were begun are there, those that are finished among them
pub record State (P I A : Type 0) : Type 0 where
  pub requests : List (RequestState P I A)
  pub begun : List BegunRun
  pub table : Records
  pub tools_used : List (ToolsUsed I)

-- the state with this in place of the request of that number
abbrev pub with_request : {P I A : Type 0} → State P I A → ℕ → RequestState P I A → State P I A
with_request s id q = record
    { requests = put s.requests id q; begun = s.begun; table = s.table; tools_used = s.tools_used }

-- the request, where it stands so
abbrev pub with_status : {P I A : Type 0} → RequestState P I A → Status P I A →
    RequestState P I A
with_status q status = record
    { origin = q.origin; journal = q.journal; runs = q.runs; status = status }

-- a new request, ready at its beginning
abbrev pub new_request : {P I A : Type 0} → World P I A → Option ℕ → List RunId → Journal →
    RequestKey → RequestState P I A
new_request w parent path journal key = record {
  origin = record { key = key; parent = parent; path = path };
  journal = journal;
  runs = [];
  status = ready (walking (w.walks key journal));
}

-- where every history begins: the root request alone, with nothing known and nothing begun
abbrev pub start : {P I A : Type 0} → World P I A → State P I A
start w = record
    { requests = new_request w None [] [] w.root ∷ []; begun = []; table = []; tools_used = [] }
