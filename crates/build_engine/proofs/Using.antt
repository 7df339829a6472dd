-- The tools that a build uses.
use Rattle.std.proofs.Common.{
  ◌≡◌,
  ◌<◌,
  List,
  [],
  ◌++◌,
  Bool,
  Option,
  None,
  Some,
  Result,
  Ok,
  Err,
  IfOk,
  ap,
  refl,
  sym,
  subst,
  ◌∙◌,
  arith,
}
use Rattle.std.proofs.Math.Logic.{∥∥₁_elim, ∥∥₁_map, ∥∥₁_map₂, ∥∥₁_prop}
use Rattle.msb_values.specs.declared.errors.NoMemory.{NoMemory}
use Rattle.build_meaning.specs.declared.event.Event.{Event}
use Rattle.build_meaning.specs.SoFar.{ToolUse}
use Rattle.build_meaning.specs.World.{World}
use Rattle.build_meaning.specs.History.{retires}
use Rattle.build_history.specs.Uses.{tools_of, uses_in}
use Rattle.build_scheduler.specs.declared.slot.End.{End}
use Rattle.build_scheduler.specs.declared.slot.End.TheVariants.{
  Root,
  Circular,
  TooDeep,
  TooMany,
  NoMemory as WantsMemory,
}
use Rattle.build_plain.specs.Driven.{AssignsLeast}
use Rattle.build_scheduler.specs.Drivers.{IsLegal}
use Rattle.build_plain.specs.Used.{Uses, UnlessMemory}
use Rattle.build_outcome.specs.Outcomes.{IsOutcomeAt}
use Rattle.build_outcome.specs.declared.outcome.Outcome.{Outcome}
use Rattle.build_plain.proofs.Driving.{none-retired}
use Rattle.build_engine.specs.OnNodes.{IsOutcomeOn}
use Rattle.build_engine.specs.UsedFor.{IsOutcomeOnOne, IsUsedFor}

module _ {P I A : Type 0} (w : World P I A) (low : Bool) where
  -- an outcome does not come of a build that wanted memory
  had_memory : (events : List Event) (end : Option End) (outcome : Outcome) (P : Type 0) →
      IsOutcomeAt w low events end outcome → UnlessMemory end P → P
  had_memory events None outcome P is p = p
  had_memory events (Some (Root result)) outcome P is p = p
  had_memory events (Some (Circular runs)) outcome P is p = p
  had_memory events (Some (TooDeep keys)) outcome P is p = p
  had_memory events (Some (TooMany instance)) outcome P is p = p
  had_memory events (Some WantsMemory) outcome P is p = absurd is

  -- each of the events of a driver that began with none
  abbrev pub Takes : List Event → List Event → Type 0
  Takes first events = (more : List Event) → events ≡ first ++ more → AssignsLeast w first more

  least_at_first : (first events : List Event) → first ≡ [] → Takes first events →
      AssignsLeast w [] events
  least_at_first first events none least =
      subst (λ es. AssignsLeast w es events) none
      (least events (sym (ap (λ es. es ++ events) none)))

  used_for : (first events : List Event) (end : Option End) (outcome : Outcome)
      (from to : List (ToolUse I)) → first ≡ [] → ∥ IsLegal w events ∥₁ → Takes first events →
      (retires first ≡ 0 → UnlessMemory end ∥ Uses w first events from to ∥₁) →
      ∥ IsOutcomeAt w low events end outcome ∥₁ → ∥ IsUsedFor w low outcome from to ∥₁
  used_for first events end outcome from to none legal least uses is =
      ∥∥₁_elim is ∥∥₁_prop
      (λ x.
      ∥∥₁_map₂ legal
      (had_memory events end outcome ∥ Uses w first events from to ∥₁ x (uses (ap retires none)))
      (λ s u.
      let all : uses_in w events ≡ u.more = u.uses ∙ ap (λ es. uses_in w es ++ u.more) none in
      record {
        comes = record {
          events = events;
          state = s.0;
          end = end;
          history = s.1;
          least = least_at_first first events none least;
          is = x;
        };
        tools = u.tools ∙ ap (λ us. from ++ tools_of us) (sym all);
      }))

  -- the tools that a build from no event on has used
  pub all_used_for : (first events : List Event) (end : Option End) (made : Result Outcome NoMemory)
      (from to : List (ToolUse I)) → first ≡ [] → ∥ IsLegal w events ∥₁ → Takes first events →
      (retires first ≡ 0 → UnlessMemory end ∥ Uses w first events from to ∥₁) →
      IfOk made (λ o. ∥ IsOutcomeAt w low events end o ∥₁) →
      IfOk made (λ o. ∥ IsUsedFor w low o from to ∥₁)
  all_used_for first events end (Ok o) from to none legal least uses is =
      used_for first events end o from to none legal least uses is
  all_used_for first events end (Err e) from to none legal least uses is = tt

  -- one node that takes the least ready request each time does not retire
  on_one : (outcome : Outcome) → IsOutcomeOnOne w low outcome → IsOutcomeOn w 1 low outcome
  on_one outcome x =
      let none : retires x.events ≡ 0 = none-retired w [] x.events
      (record { more = x.events; is = refl; least = x.least }) refl in
      record {
        events = x.events;
        state = x.state;
        end = x.end;
        history = x.history;
        few = omega (arith, none);
        is = x.is;
      }

  -- what comes of a build on one node, apart from its tools
  pub comes_on_one : (outcome : Outcome) (from to : List (ToolUse I)) →
      ∥ IsUsedFor w low outcome from to ∥₁ → ∥ IsOutcomeOnOne w low outcome ∥₁
  comes_on_one outcome from to used = ∥∥₁_map used (λ x. x.comes)

  -- it is one of a build on one node that does not retire
  pub each_on_one : (made : Result Outcome NoMemory) (from to : List (ToolUse I)) →
      IfOk made (λ o. ∥ IsUsedFor w low o from to ∥₁) → IfOk made (λ o. ∥ IsOutcomeOn w 1 low o ∥₁)
  each_on_one (Ok o) from to used = ∥∥₁_map used (λ x. on_one o x.comes)
  each_on_one (Err none) from to used = tt
