-- Which tools the bodies of a history use, in order. (Target element; Task element)
use Rattle.std.specs.Prelude.{
  ◌≡◌,
  Bool,
  true,
  false,
  List,
  [],
  ◌∷◌,
  ◌++◌,
  length,
  drop,
  map,
  Option,
  None,
  Some,
}
use Rattle.result_cache.specs.declared.run.RunId.{RunId}
use Rattle.result_cache.specs.declared.request.RequestResult.{RequestResult}
use Rattle.result_cache.specs.declared.record.Record.{Record}
use Rattle.result_cache.specs.Lists.{In}
use Rattle.result_cache.specs.Journal.{Journal}
use Rattle.result_cache.specs.Same.{same_run}
use Rattle.build_meaning.specs.declared.event.Event.{Event}
use Rattle.build_meaning.specs.Lists.{at}
use Rattle.build_meaning.specs.World.{World}
use Rattle.build_meaning.specs.SoFar.{ToolUse}
use Rattle.build_meaning.specs.Meaning.{built, Given}
use Rattle.build_meaning.specs.Demand.{IsSingle}
use Rattle.build_meaning.specs.Sound.{IsMade}
use Rattle.build_meaning.specs.State.{
  Place,
  walking,
  within,
  Status,
  ready,
  assigned,
  waits,
  calling,
  done,
  RequestState,
  ToolsUsed,
  State,
  start,
}
use Rattle.build_meaning.specs.Step.{whose, step}

-- a use of a tool in the body of this run
pub record RunUse (I : Type 0) : Type 0 where
  pub run : RunId
  pub tool : ToolUse I

-- this in front of others, where the test holds
abbrev pub with_if : {X : Type 0} → Bool → X → List X → List X
with_if true x others = x ∷ others
with_if false x others = others

-- the uses of one run, in order
abbrev pub uses_of : {I : Type 0} → RunId → List (RunUse I) → List (ToolUse I)
uses_of run [] = []
uses_of run (u ∷ uses) = with_if (same_run u.run run) u.tool (uses_of run uses)

-- uses that are all of this run
abbrev pub by_run : {I : Type 0} → RunId → List (ToolUse I) → List (RunUse I)
by_run run tools = map (λ tool. record { run = run; tool = tool }) tools

-- what was used, whichever the runs
abbrev pub tools_of : {I : Type 0} → List (RunUse I) → List (ToolUse I)
tools_of uses = map (λ u. u.tool) uses

module _ {P I A : Type 0} where
  -- the body that a request is in: its run, and the tools that it has used so far
  abbrev pub body_in : Place P I A → Option (ToolsUsed I)
  body_in (walking walk) = None
  body_in (within x stop) = Some (record { run = x.run; tools = x.so_far.tools })

  abbrev pub body_at : Status P I A → Option (ToolsUsed I)
  body_at (ready place) = body_in place
  body_at (assigned node place) = body_in place
  body_at (waits run b go) = None
  body_at (calling keys ids x go) = Some (record { run = x.run; tools = x.so_far.tools })
  body_at (done result) = None

  abbrev pub body_of : Option (RequestState P I A) → Option (ToolsUsed I)
  body_of None = None
  body_of (Some q) = body_at q.status

-- what a body has used, without what these uses have of it
abbrev pub new_uses : {I : Type 0} → List (RunUse I) → Option (ToolsUsed I) → List (RunUse I)
new_uses uses None = []
new_uses uses (Some b) = by_run b.run (drop (length (uses_of b.run uses)) b.tools)

-- these uses where there is no next state, and else by it
abbrev pub and_on : {X S : Type 0} → X → Option S → (S → X) → X
and_on uses None next = uses
and_on uses (Some s) next = next s

module _ {P I A : Type 0} (w : World P I A) where
  -- these uses, and those of some events from a state on. A request that its caller's results have
  -- made ready hasn't gone on yet, whatever its state says: so what its body uses comes with its
  -- own next event
  abbrev pub uses_from : List (RunUse I) → State P I A → List Event → List (RunUse I)
  uses_from uses s [] = uses
  uses_from uses s (event ∷ events) =
      and_on uses (step w s event)
      (λ next. uses_from (uses ++ new_uses uses (body_of (at next.requests (whose event)))) next
      events)

  -- the uses of a history
  abbrev pub uses_in : List Event → List (RunUse I)
  uses_in events = uses_from [] (start w) events

-- the uses are those of the meaning: each is of one of its runs, and each run's are those of one of
-- its bodies; where no calls are made at once, of its only one
pub record AreMeant {P I : Type 0} (out : Given P I RequestResult)
    (uses : List (RunUse I)) : Type 0 where
  pub each : (u : RunUse I) → In u uses → (made : Record) × IsMade out.demand u.run made
  pub once : (run : RunId) (made : Record) → IsMade out.demand run made →
      (site : P) × (from : Journal) × In (built site run from made (uses_of run uses)) out.demand
  pub single : IsSingle out.demand → (site : P) (run : RunId) (from : Journal) (made : Record)
      (tools : List (ToolUse I)) → In (built site run from made tools) out.demand →
      uses_of run uses ≡ tools
