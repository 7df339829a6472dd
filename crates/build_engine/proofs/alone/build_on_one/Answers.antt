use Rattle.std.proofs.Common.{List, IfOk, sym, subst, ◌∙◌}
use Rattle.build_meaning.specs.World.{World}
use Rattle.build_meaning.specs.declared.event.Event.{Event}
use Rattle.build_outcome.specs.Outcomes.{IsOutcome, IsOutcomeAt}
use Rattle.build_plain.specs.Driven.{NoneAssigned}
use Rattle.build_scheduler.specs.Drivers.{IsLegal}
use Rattle.build_engine.specs.UsedFor.{IsUsedFor}
use Rattle.build_engine.proofs.Using.{all_used_for}
use Rattle.build_engine.proofs.Building.{known_statuses, none_at_first, outcomes_are}
use Rattle.build_engine.proofs.alone.build_on_one.Goals as goal

pub build_alone-requires-clause-free : goal.build_alone-requires-clause-free
build_alone-requires-clause-free g c =
    let core = c.in_ok-core.core in
    subst (λ (events : List Event). NoneAssigned (g.W.Walker.world_of core.world) events)
    (sym c.in_ok-core.ensures.history) (none_at_first (g.W.Walker.world_of core.world))

pub build_alone-requires-clause-place : goal.build_alone-requires-clause-place
build_alone-requires-clause-place g c =
    subst (g.W.Walker.Fits c.args.place.now) (sym c.in_ok-core.ensures.world) c.requires.place

pub returns-clause-place : goal.returns-clause-place
returns-clause-place g c =
    subst (g.W.Walker.Fits c.build_alone.new.place) c.in_ok-core.ensures.world
    c.build_alone.ensures.place

pub returns-clause-outcome : goal.returns-clause-outcome
returns-clause-outcome g c =
    let core = c.build_alone.new.core in
    subst (λ (w : World g.W.Walker.Site g.W.Walker.Input g.W.Walker.Output).
    IfOk c.of-outcome.result (λ o. ∥ IsOutcome w c.args.low o ∥₁))
    (c.build_alone.ensures.world ∙ c.in_ok-core.ensures.world)
    (outcomes_are (g.W.Walker.world_of core.world) c.args.low core.history.events core.end
    c.of-outcome.result c.build_alone.ensures.legal c.of-outcome.ensures.outcome)

pub returns-clause-status : goal.returns-clause-status
returns-clause-status g c = known_statuses c.of-outcome.result c.of-outcome.ensures.status

pub returns-clause-used : goal.returns-clause-used
returns-clause-used g c =
    let m = g.W.Walker in
    let core = c.build_alone.new.core in
    let first = c.in_ok-core.core in
    let from = m.used c.args.place.now in
    let to = m.used c.build_alone.new.place in
    let same = c.build_alone.ensures.world in
    subst (λ (w : World m.Site m.Input m.Output). IfOk c.of-outcome.result
    (λ o. ∥ IsUsedFor w c.args.low o from to ∥₁)) c.in_ok-core.ensures.world
    (all_used_for (m.world_of first.world) c.args.low first.history.events core.history.events
    core.end c.of-outcome.result from to c.in_ok-core.ensures.history
    (subst (λ (w : World m.Site m.Input m.Output). ∥ IsLegal w core.history.events ∥₁) same
    c.build_alone.ensures.legal) c.build_alone.ensures.least c.build_alone.ensures.uses
    (subst (λ (w : World m.Site m.Input m.Output). IfOk c.of-outcome.result
    (λ o. ∥ IsOutcomeAt w c.args.low core.history.events core.end o ∥₁)) same
    c.of-outcome.ensures.outcome))

pub returns-clause-front : goal.returns-clause-front
returns-clause-front g c = c.build_alone.ensures.front
