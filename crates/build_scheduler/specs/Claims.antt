-- How a claim of a run is answered. (MSBuild task: a target is run once)
use Rattle.std.specs.Prelude.{
  ◌≡◌,
  ℕ,
  true,
  List,
  [],
  ◌∷◌,
  ◌++◌,
  Option,
  None,
  Some,
  Result,
  Ok,
  Err,
}
use Rattle.result_cache.specs.declared.run.RunId.{RunId}
use Rattle.result_cache.specs.declared.record.Record.{Record}
use Rattle.result_cache.specs.Journal.{Journal}
use Rattle.result_cache.specs.Table.{Records, found, is_begun}
use Rattle.build_meaning.specs.declared.event.Event.{Event}
use Rattle.build_meaning.specs.declared.event.Event.TheVariants.{Claim}
use Rattle.build_meaning.specs.declared.event.ClaimKind.TheVariants.{Go, Use, Wait}
use Rattle.build_meaning.specs.Lists.{at}
use Rattle.build_meaning.specs.World.{World}
use Rattle.build_meaning.specs.Walk.{Walk, wants, Body}
use Rattle.build_meaning.specs.State.{Place, walking, assigned, RequestState, State}
use Rattle.build_meaning.specs.Cycle.{IsChain}
use Rattle.build_meaning.specs.Step.{waiting}
use Rattle.build_meaning.specs.History.{IsHistory}
use Rattle.build_scheduler.specs.declared.walker.Answer.TheVariants.{Go as Goes, Use as Uses}
use Rattle.build_scheduler.specs.declared.claim.Claimed.{Claimed}
use Rattle.build_scheduler.specs.declared.claim.Claimed.TheVariants.{
  Go as Begins,
  Use as Takes,
  Wait as Waits,
  Circular,
}
use Rattle.build_scheduler.specs.Own.{Seen, IsOut}

-- the request with a node would close a cycle if it waited for the run: the run is begun and not
-- finished, and would need itself, over some others or over none
pub record WouldClose {P I A : Type 0} (w : World P I A) (events : List Event) (id : ℕ)
    (run : RunId) : Type 0 where
  pub state : State P I A
  pub request : RequestState P I A
  pub node : ℕ
  pub place : Place P I A
  pub body : Body I A
  pub go : Record → Journal → Walk P I A
  pub between : List RunId
  pub history : IsHistory w events state
  pub there : at state.requests id ≡ Some request
  pub with_node : request.status ≡ assigned node place
  pub begun : is_begun run state.begun ≡ true
  pub unfinished : found state.table run ≡ None
  pub closes : IsChain (waiting w state id request run body go)
      run between run

-- the request with a node wants a run that is begun and not finished, and these runs are the cycle
-- that its wait would close: from the run over others, if any, back to the run, where each needs
-- the next
pub record ClosesCycle {P I A : Type 0} (w : World P I A) (events : List Event) (id : ℕ)
    (run : RunId) (runs : List RunId) : Type 0 where
  pub state : State P I A
  pub request : RequestState P I A
  pub node : ℕ
  pub site : P
  pub body : Body I A
  pub go : Record → Journal → Walk P I A
  pub between : List RunId
  pub history : IsHistory w events state
  pub there : at state.requests id ≡ Some request
  pub wants_so : request.status ≡ assigned node (walking (wants site run body go))
  pub begun : is_begun run state.begun ≡ true
  pub unfinished : found state.table run ≡ None
  pub runs_so : runs ≡ run ∷ between ++ run ∷ []
  pub closes : IsChain (waiting w state id request run body go)
      run between run

-- the cycle that the request would close, or it would close none
abbrev pub IsClosingCycle : {P I A : Type 0} → World P I A → List Event → ℕ → RunId
    → Option (List RunId) → Type 0
IsClosingCycle w events id run None = (runs : List RunId) → ∥ ClosesCycle w events id run runs ∥₁
    → ⊥
IsClosingCycle w events id run (Some runs) = ∥ ClosesCycle w events id run runs ∥₁

-- the events after a claim, and what is said of the walk that is handed back
abbrev pub IsClaimed : {W P I A : Type 0} → (W → Seen P I A) → World P I A → List Event → List Event
    → Records → ℕ → RunId → W → Result (Claimed W) W → Type 0
IsClaimed seen w events after table id run walk (Ok (Begins back)) =
    (after ≡ events ++ Claim id run Go ∷ []) × (back ≡ walk)
    × ∥ IsOut w after table id (seen back) Goes ∥₁
IsClaimed seen w events after table id run walk (Ok (Takes back)) =
    (after ≡ events ++ Claim id run Use ∷ []) × (back ≡ walk)
    × ∥ IsOut w after table id (seen back) Uses ∥₁
IsClaimed seen w events after table id run walk (Ok Waits) = after
    ≡ events ++ Claim id run Wait ∷ []
IsClaimed seen w events after table id run walk (Ok (Circular back runs)) = (after ≡ events)
    × (back ≡ walk) × ∥ ClosesCycle w events id run runs ∥₁
IsClaimed seen w events after table id run walk (Err back) = (after ≡ events) × (back ≡ walk)
