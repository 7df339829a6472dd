-- Every outcome of a whole and steady world is that of its meaning.
use Rattle.std.proofs.Common.{◌≡◌, Bool, List, Option, None, Some, sym, ◌∙◌, ap}
use Rattle.result_cache.specs.declared.request.RequestResult.{RequestResult}
use Rattle.build_meaning.specs.declared.event.Event.{Event}
use Rattle.build_meaning.specs.World.{World}
use Rattle.build_meaning.specs.Meaning.{Given}
use Rattle.build_meaning.specs.Demand.{IsWhole, IsSteady}
use Rattle.build_meaning.proofs.MeaningAgreed.{agrees}
use Rattle.build_scheduler.specs.declared.slot.End.{End}
use Rattle.build_scheduler.specs.declared.slot.End.TheVariants.{
  Root,
  Circular,
  TooDeep,
  TooMany,
  NoMemory,
}
use Rattle.build_outcome.specs.declared.outcome.Outcome.{Outcome}
use Rattle.build_outcome.specs.Outcomes.{built, IsBuilt, IsOutcomeAt, IsOutcome}
use Rattle.build_outcome.proofs.NoStops.{no-circles, never-deep, never-many}

module _ {P I A : Type 0} (w : World P I A) (out : Given P I RequestResult) (whole : IsWhole w out)
    (steady : IsSteady out.demand) (low : Bool) where
  built-meant : (events : List Event) (result : RequestResult) (outcome : Outcome)
      → IsBuilt w low events result outcome → outcome ≡ built low out.value out.journal
  built-meant events result outcome x =
      let y = (agrees w out whole steady events x.state x.history).root result x.journal x.ends in
      x.outcome_is
      ∙ (ap (λ (r : RequestResult). built low r x.journal) y.0 ∙ ap (built low out.value) y.1)

  meant : (events : List Event) (end : Option End) (outcome : Outcome)
      → IsOutcomeAt w low events end outcome → outcome ≡ built low out.value out.journal
  meant events None outcome h = absurd h
  meant events (Some (Root result)) outcome h = built-meant events result outcome h
  meant events (Some (Circular runs)) outcome h =
      absurd (no-circles w out whole steady events runs h.0)
  meant events (Some (TooDeep keys)) outcome h =
      absurd (never-deep w out whole steady events keys h.0)
  meant events (Some (TooMany instance)) outcome h =
      absurd (never-many w out whole steady events instance h.0)
  meant events (Some NoMemory) outcome h = absurd h

pub outcome_is_the_meanings : {P I A : Type 0} (w : World P I A) (out : Given P I RequestResult) →
    IsWhole w out → IsSteady out.demand → (low : Bool) (outcome : Outcome) →
    IsOutcome w low outcome → outcome ≡ built low out.value out.journal
outcome_is_the_meanings w out whole steady low outcome x =
    meant w out whole steady low x.events x.end outcome x.is

pub outcomes_agree : {P I A : Type 0} (w : World P I A) (out : Given P I RequestResult) →
    IsWhole w out → IsSteady out.demand → (low : Bool) (one other : Outcome) → IsOutcome w low one →
    IsOutcome w low other → one ≡ other
outcomes_agree w out whole steady low one other x y =
    outcome_is_the_meanings w out whole steady low one x
    ∙ sym (outcome_is_the_meanings w out whole steady low other y)
