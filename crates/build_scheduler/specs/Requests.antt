-- How the calls of a request are answered. (MSBuild task)
use Rattle.std.specs.Prelude.{
  ◌≡◌,
  ◌≤◌,
  ◌<◌,
  ◌+◌,
  ℕ,
  suc,
  List,
  [],
  ◌∷◌,
  ◌++◌,
  length,
  map,
  reverse,
  Option,
  None,
  Some,
  Result,
  Ok,
  Err,
}
use Rattle.msb_values.specs.declared.key.InstanceKey.{InstanceKey}
use Rattle.result_cache.specs.declared.request.RequestKey.{RequestKey}
use Rattle.build_meaning.specs.declared.event.Event.{Event}
use Rattle.build_meaning.specs.declared.event.Event.TheVariants.{Request}
use Rattle.build_meaning.specs.World.{World}
use Rattle.build_meaning.specs.Meaning.{deepest, most_instances}
use Rattle.build_meaning.specs.Demand.{distinct}
use Rattle.build_meaning.specs.Lists.{at}
use Rattle.build_meaning.specs.State.{RequestState, State}
use Rattle.build_meaning.specs.Step.{instance_of}
use Rattle.build_meaning.specs.History.{IsHistory}
use Rattle.build_scheduler.specs.declared.walker.Ask.TheVariants.{Call}
use Rattle.build_scheduler.specs.declared.request.RequestFault.{RequestFault}
use Rattle.build_scheduler.specs.declared.request.RequestFault.TheVariants.{
  TooDeep,
  TooMany,
  Memory,
}
use Rattle.build_scheduler.specs.History.{History}
use Rattle.build_scheduler.specs.Own.{IsWith}
use Rattle.build_scheduler.specs.Position.{Position, ask_of}
use Rattle.build_scheduler.specs.Slots.{owed_by}

-- there is room for so many more events than the requests owe
pub record HasSpare {P I A : Type 0} (w : World P I A) (core_history : History) (more : ℕ)
    : Type 0 where
  pub state : State P I A
  pub history : IsHistory w core_history.events state
  pub spare : owed_by state.requests + more ≤ core_history.room

-- the keys from a request up to the root
abbrev pub AreKeysUp : {P I A : Type 0} → List (RequestState P I A) → Option ℕ → List RequestKey
    → Type 0
AreKeysUp requests None [] = Unit {0}
AreKeysUp {P} {I} {A} requests (Some id) (key ∷ keys) = (q : RequestState P I A)
    × (at requests id ≡ Some q) × (q.origin.key ≡ key) × AreKeysUp requests q.origin.parent keys
AreKeysUp requests id keys = ⊥

-- a call of the request with a node would be nested too deep: these are the keys from the root to
-- the request, and the first one of its call
pub record IsTooDeep {P I A : Type 0} (w : World P I A) (events : List Event) (id : ℕ)
    (calls keys : List RequestKey) : Type 0 where
  pub position : Position P I A
  pub stands : IsWith w events id position
  pub asks : ask_of position ≡ Call calls
  pub too_deep : deepest ≤ suc (length stands.origin.path)
  pub up : List RequestKey
  pub first : RequestKey
  pub behind : List RequestKey
  pub above : AreKeysUp stands.state.requests (Some id) up
  pub calls_are : calls ≡ first ∷ behind
  pub keys_are : keys ≡ reverse up ++ first ∷ []
  pub many : length keys ≡ suc deepest

-- how many distinct instances there are with some calls
abbrev pub instances_with : {P I A : Type 0} → World P I A → State P I A → List RequestKey → ℕ
instances_with w s calls = length
    (distinct (map (instance_of w) s.requests ++ map (λ (call : RequestKey). call.instance) calls))

-- the calls of the request with a node would not be nested too deep, and with this instance of one
-- of them, and not before, there would be too many
pub record AreTooMany {P I A : Type 0} (w : World P I A) (events : List Event) (id : ℕ)
    (calls : List RequestKey) (instance : InstanceKey) : Type 0 where
  pub position : Position P I A
  pub stands : IsWith w events id position
  pub asks : ask_of position ≡ Call calls
  pub not_deep : suc (length stands.origin.path) < deepest
  pub before : List RequestKey
  pub call : RequestKey
  pub behind : List RequestKey
  pub calls_are : calls ≡ before ++ call ∷ behind
  pub instance_is : call.instance ≡ instance
  pub not_before : instances_with w stands.state before ≤ most_instances
  pub too_many : most_instances < instances_with w stands.state (before ++ call ∷ [])

abbrev pub IsRefused : {P I A : Type 0} → World P I A → List Event → ℕ → List RequestKey
    → RequestFault → Type 0
IsRefused w events id calls (TooDeep keys) = ∥ IsTooDeep w events id calls keys ∥₁
IsRefused w events id calls (TooMany instance) = ∥ AreTooMany w events id calls instance ∥₁
IsRefused w events id calls Memory = Unit {0}

-- the calls are made, or nothing changes, and the walk is handed back
abbrev pub IsRequested : {W P I A : Type 0} → World P I A → List Event → List Event → ℕ
    → List RequestKey → W → Result (Unit {0}) (W × RequestFault) → Type 0
IsRequested w events after id calls walk (Ok done) = after ≡ events ++ Request id calls ∷ []
IsRequested w events after id calls walk (Err back) = (after ≡ events) × (back.0 ≡ walk)
    × IsRefused w events id calls back.1
