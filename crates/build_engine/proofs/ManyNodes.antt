-- What has come of a core of several nodes.
use Rattle.std.proofs.Common.{◌≡◌, ℕ, List, Bool, Option, Result, Ok, Err, IfOk, subst}
use Rattle.std.proofs.Math.Logic.{∥∥₁_elim, ∥∥₁_map₂, ∥∥₁_prop}
use Rattle.msb_values.specs.declared.errors.NoMemory.{NoMemory}
use Rattle.build_meaning.specs.declared.event.Event.{Event}
use Rattle.build_meaning.specs.World.{World}
use Rattle.build_meaning.specs.History.{AreOfNodes}
use Rattle.build_scheduler.specs.declared.slot.End.{End}
use Rattle.build_scheduler.specs.Drivers.{IsLegal}
use Rattle.build_outcome.specs.Outcomes.{IsOutcomeAt}
use Rattle.build_outcome.specs.declared.outcome.Outcome.{Outcome}
use Rattle.build_engine.specs.OnNodes.{IsOutcomeOn}

module _ {P I A : Type 0} (nodes : ℕ) (low : Bool) (events : List Event) (end : Option End)
    (few : AreOfNodes nodes events) where
  outcome_on : (w : World P I A) (outcome : Outcome) → ∥ IsLegal w events ∥₁ →
      ∥ IsOutcomeAt w low events end outcome ∥₁ → ∥ IsOutcomeOn w nodes low outcome ∥₁
  outcome_on w outcome legal is =
      ∥∥₁_map₂ legal is
      (λ s x.
      record { events = events; state = s.0; end = end; history = s.1; few = few; is = x })

  outcomes_on : (v u : World P I A) (made : Result Outcome NoMemory) → ∥ u ≡ v ∥₁ →
      ∥ IsLegal v events ∥₁ → IfOk made (λ o. ∥ IsOutcomeAt u low events end o ∥₁) →
      IfOk made (λ o. ∥ IsOutcomeOn v nodes low o ∥₁)
  outcomes_on v u (Ok o) same legal is =
      ∥∥₁_elim same ∥∥₁_prop (λ e. outcome_on v o legal
      (subst (λ (x : World P I A). ∥ IsOutcomeAt x low events end o ∥₁) e is))
  outcomes_on v u (Err none) same legal is = tt

-- what has come of a core whose world is that of a walk
pub outcome_on_core : {P I A : Type 0} (w v u : World P I A) (nodes : ℕ) (low : Bool)
    (events : List Event) (end : Option End) (made : Result Outcome NoMemory) →
    v ≡ w → ∥ u ≡ v ∥₁ → ∥ IsLegal v events ∥₁ → AreOfNodes nodes events
    → IfOk made (λ o. ∥ IsOutcomeAt u low events end o ∥₁)
    → IfOk made (λ o. ∥ IsOutcomeOn w nodes low o ∥₁)
outcome_on_core {P} {I} {A} w v u nodes low events end made of same legal few is =
    subst (λ (x : World P I A). IfOk made (λ o. ∥ IsOutcomeOn x nodes low o ∥₁)) of
    (outcomes_on nodes low events end few v u made same legal is)
