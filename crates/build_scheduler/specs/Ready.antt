-- Requests that are ready, or with a node.
use Rattle.std.specs.Prelude.{◌≡◌, ◌≤◌, ℕ, List, Option, None, Some}
use Rattle.build_meaning.specs.declared.event.Event.{Event}
use Rattle.build_meaning.specs.Lists.{at}
use Rattle.build_meaning.specs.World.{World}
use Rattle.build_meaning.specs.State.{Place, ready, assigned, RequestState, State}
use Rattle.build_meaning.specs.History.{IsHistory}

-- after these events the request is ready
pub record IsReady {P I A : Type 0} (w : World P I A) (events : List Event) (id : ℕ) : Type 0 where
  pub state : State P I A
  pub request : RequestState P I A
  pub place : Place P I A
  pub history : IsHistory w events state
  pub there : at state.requests id ≡ Some request
  pub is : request.status ≡ ready place

-- after these events the request is with a node
pub record IsAssigned {P I A : Type 0} (w : World P I A) (events : List Event) (id : ℕ) : Type 0
  where
    pub state : State P I A
    pub request : RequestState P I A
    pub node : ℕ
    pub place : Place P I A
    pub history : IsHistory w events state
    pub there : at state.requests id ≡ Some request
    pub is : request.status ≡ assigned node place

-- after these events the request is with this node
pub record IsAssignedTo {P I A : Type 0} (w : World P I A) (events : List Event) (id node : ℕ) :
    Type 0 where
  pub state : State P I A
  pub request : RequestState P I A
  pub place : Place P I A
  pub history : IsHistory w events state
  pub there : at state.requests id ≡ Some request
  pub is : request.status ≡ assigned node place

-- it is a request that is ready, or none is
abbrev pub IsSomeReady : {P I A : Type 0} → World P I A → List Event → Option ℕ → Type 0
IsSomeReady w events None = (id : ℕ) → ∥ IsReady w events id ∥₁ → ⊥
IsSomeReady w events (Some next) = ∥ IsReady w events next ∥₁

-- it is the least request that is ready, or none is
abbrev pub IsLeastReady : {P I A : Type 0} → World P I A → List Event → Option ℕ → Type 0
IsLeastReady w events None = (id : ℕ) → ∥ IsReady w events id ∥₁ → ⊥
IsLeastReady w events (Some least) = ∥ IsReady w events least ∥₁
    × ((id : ℕ) → ∥ IsReady w events id ∥₁ → least ≤ id)
