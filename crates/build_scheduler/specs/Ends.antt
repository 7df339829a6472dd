-- How a build ends, and by what state it is shown. (MSBuild task; Building projects in parallel)
use Rattle.std.specs.Prelude.{ℕ, List, Option, None, Some}
use Rattle.result_cache.specs.declared.run.RunId.{RunId}
use Rattle.result_cache.specs.declared.request.RequestKey.{RequestKey}
use Rattle.result_cache.specs.declared.request.RequestResult.{RequestResult}
use Rattle.result_cache.specs.Journal.{Journal}
use Rattle.build_meaning.specs.declared.event.Event.{Event}
use Rattle.build_meaning.specs.World.{World}
use Rattle.build_meaning.specs.State.{State}
use Rattle.build_meaning.specs.History.{IsHistory, EndsWith}
use Rattle.build_scheduler.specs.declared.slot.End.{End}
use Rattle.build_scheduler.specs.declared.slot.End.TheVariants.{
  Root,
  Circular,
  TooDeep,
  TooMany,
  NoMemory,
}
use Rattle.build_scheduler.specs.Claims.{ClosesCycle}
use Rattle.build_scheduler.specs.Requests.{IsTooDeep, AreTooMany}

-- after these events the root is over, with this result
pub record IsRootOver {P I A : Type 0} (w : World P I A) (events : List Event)
    (result : RequestResult) : Type 0 where
  pub state : State P I A
  pub journal : Journal
  pub history : IsHistory w events state
  pub ends : EndsWith state result journal

-- after these events a request with a node can't go on: it closes a cycle of runs, or its calls
-- pass a limit; want of memory needs no cause
abbrev pub IsStop : {P I A : Type 0} → World P I A → List Event → End → Type 0
IsStop w events (Root result) = ⊥
IsStop w events (Circular runs) = ∥ ((id : ℕ) × (run : RunId) × ClosesCycle w events id run runs) ∥₁
IsStop w events (TooDeep keys) =
    ∥ ((id : ℕ) × (calls : List RequestKey) × IsTooDeep w events id calls keys) ∥₁
IsStop w events (TooMany instance) =
    ∥ ((id : ℕ) × (calls : List RequestKey) × AreTooMany w events id calls instance) ∥₁
IsStop w events NoMemory = Unit {0}

-- what is told of the end: the result of the root, once it is over, or why the build was stopped
abbrev pub IsEnd : {P I A : Type 0} → World P I A → List Event → Option End → Type 0
IsEnd w events None = (result : RequestResult) → ∥ IsRootOver w events result ∥₁ → ⊥
IsEnd w events (Some (Root result)) = ∥ IsRootOver w events result ∥₁
IsEnd w events (Some end) = IsStop w events end

-- an end other than that of the root is shown
abbrev pub ShowsStop : {P I A : Type 0} → World P I A → List Event → Option End → Type 0
ShowsStop w events None = Unit {0}
ShowsStop w events (Some (Root result)) = Unit {0}
ShowsStop w events (Some end) = IsStop w events end
