-- A build of a world, from its first state to its outcome.
use Rattle.std.proofs.Common.{
  ◌≡◌,
  ◌⊎◌,
  ℕ,
  zero,
  suc,
  List,
  [],
  Bool,
  Option,
  None,
  Some,
  Result,
  Ok,
  Err,
  IfOk,
  inl,
  inr,
  ap,
  subst,
  ◌∙◌,
}
use Rattle.std.proofs.Math.Logic.{∥∥₁_elim, ∥∥₁_map₂, ∥∥₁_prop}
use Rattle.msb_values.specs.declared.errors.NoMemory.{NoMemory}
use Rattle.build_meaning.specs.declared.event.Event.{Event}
use Rattle.build_meaning.specs.Lists.{at}
use Rattle.build_meaning.specs.World.{World}
use Rattle.build_meaning.specs.State.{Place, walking, ready, assigned, RequestState, State, start}
use Rattle.build_scheduler.specs.Ready.{IsAssigned}
use Rattle.build_scheduler.specs.declared.slot.End.{End}
use Rattle.build_plain.specs.Driven.{NoneAssigned}
use Rattle.build_scheduler.specs.Drivers.{IsLegal}
use Rattle.build_outcome.specs.Outcomes.{IsOutcome, IsOutcomeAt, IsStatus}
use Rattle.build_outcome.specs.declared.outcome.Outcome.{Outcome}
use Rattle.build_engine.specs.Statuses.{IsCompletion, IsRefusal}

module _ {P I A : Type 0} (w : World P I A) where
  -- the first state has the root alone, which is ready
  not-assigned : (id node : ℕ) (q : RequestState P I A) (place : Place P I A) →
      at (start w).requests id ≡ Some q → q.status ≡ assigned node place → ⊥
  not-assigned zero node q place there is =
      let e : ready (walking (w.walks w.root [])) ≡ assigned node place =
      ap (λ (o : Option (RequestState P I A)). elim o [ None ↦ q.status | Some r ↦ r.status ]) there
      ∙ is in cc
  not-assigned (suc id) node q place there is = cc

  first-assigned : (id : ℕ) → IsAssigned w [] id → ⊥
  first-assigned id x =
      let same : start w ≡ x.state =
      ap (λ (o : Option (State P I A)). elim o [ None ↦ start w | Some s ↦ s ]) x.history in
      not-assigned id x.node x.request x.place (ap (λ (s : State P I A). at s.requests id) same
      ∙ x.there) x.is

  -- at first no request is with a node
  pub none_at_first : NoneAssigned w []
  none_at_first id h = ∥∥₁_elim h (λ p q. absurd p) (first-assigned id)

  -- what has come of a legal history is an outcome
  pub outcome_is : (low : Bool) (events : List Event) (end : Option End) (outcome : Outcome)
      → ∥ IsLegal w events ∥₁ → ∥ IsOutcomeAt w low events end outcome ∥₁
      → ∥ IsOutcome w low outcome ∥₁
  outcome_is low events end outcome legal is =
      ∥∥₁_map₂ legal is
      (λ s x. record { events = events; state = s.0; end = end; history = s.1; is = x })

  pub outcomes_are : (low : Bool) (events : List Event) (end : Option End)
      (made : Result Outcome NoMemory) → ∥ IsLegal w events ∥₁
      → IfOk made (λ outcome. ∥ IsOutcomeAt w low events end outcome ∥₁)
      → IfOk made (λ outcome. ∥ IsOutcome w low outcome ∥₁)
  outcomes_are low events end (Ok outcome) legal is = outcome_is low events end outcome legal is
  outcomes_are low events end (Err none) legal is = tt

module _ {P I A : Type 0} (low : Bool) (events : List Event) (end : Option End) where
  outcomes_in : (v u : World P I A) (made : Result Outcome NoMemory) → ∥ u ≡ v ∥₁ →
      ∥ IsLegal v events ∥₁ → IfOk made (λ o. ∥ IsOutcomeAt u low events end o ∥₁) →
      IfOk made (λ o. ∥ IsOutcome v low o ∥₁)
  outcomes_in v u (Ok o) same legal is =
      ∥∥₁_elim same ∥∥₁_prop (λ e. outcome_is v low events end o legal
      (subst (λ (x : World P I A). ∥ IsOutcomeAt x low events end o ∥₁) e is))
  outcomes_in v u (Err none) same legal is = tt

-- what has come of a core whose world is that of a walk
pub outcome_of_core : {P I A : Type 0} (w v u : World P I A) (low : Bool) (events : List Event)
    (end : Option End) (made : Result Outcome NoMemory) →
    v ≡ w → ∥ u ≡ v ∥₁ → ∥ IsLegal v events ∥₁
    → IfOk made (λ o. ∥ IsOutcomeAt u low events end o ∥₁)
    → IfOk made (λ o. ∥ IsOutcome w low o ∥₁)
outcome_of_core {P} {I} {A} w v u low events end made of same legal is =
    subst (λ (x : World P I A). IfOk made (λ o. ∥ IsOutcome x low o ∥₁)) of
    (outcomes_in low events end v u made same legal is)

-- the status of a build is that of a completion, or of a refusal
pub known_status : (status : ℕ) → IsStatus status → IsCompletion status ⊎ IsRefusal status
known_status status (inl zero_is) = inl (inl zero_is)
known_status status (inr (inl one_is)) = inl (inr one_is)
known_status status (inr (inr four_is)) = inr (inr four_is)

pub known_statuses : (made : Result Outcome NoMemory)
    → IfOk made (λ outcome. IsStatus outcome.status)
    → IfOk made (λ outcome. IsCompletion outcome.status ⊎ IsRefusal outcome.status)
known_statuses (Ok outcome) is = known_status outcome.status is
known_statuses (Err none) is = tt
