use Rattle.std.proofs.Common.{IfOk, subst, sym}
use Rattle.build_outcome.specs.Outcomes.{IsOutcome}
use Rattle.build_engine.specs.UsedFor.{IsUsedFor}
use Rattle.build_world.specs.declared.world.World.{World as Given}
use Rattle.request_machine.specs.Worlds.{world_of}
use Rattle.msb_outcomes.specs.Calls.{AreCallsFor, as_uses}
use Rattle.msb_outcomes.specs.Outcomes.{ComesOf, HasStatus}
use Rattle.msb_outcomes.specs.declared.work.Work.{Work}
use Rattle.msb_outcomes.proofs.Working.{also_stops, each_stops}
use Rattle.msb_outcomes.proofs.outcome.outcome_alone.Goals as goal

pub returns-in-Told-clause-status : goal.returns-in-Told-clause-status
returns-in-Told-clause-status g c =
    also_stops c.in-Told.outcome.status (subst HasStatus c.in-Told.is c.requires)

pub returns-in-Build-clause-status : goal.returns-in-Build-clause-status
returns-in-Build-clause-status g c =
    each_stops c.build_world_alone.result c.build_world_alone.ensures.status

pub returns-in-Build-clause-outcome : goal.returns-in-Build-clause-outcome
returns-in-Build-clause-outcome g c =
    let result = c.build_world_alone.result in
    let low = c.args.options.now.low in
    subst (λ (work : Work). IfOk result (ComesOf g.T.CountedTools.answer low work))
    (sym c.in-Build.is)
    (subst (λ (given : Given). IfOk result
    (λ o. ∥ IsOutcome (world_of g.T.CountedTools.answer given) low o ∥₁))
    c.parts-world.ensures.world c.build_world_alone.ensures.outcome)

pub returns-in-Build-clause-calls : goal.returns-in-Build-clause-calls
returns-in-Build-clause-calls g c =
    let result = c.build_world_alone.result in
    let low = c.args.options.now.low in
    let before = g.T.CountedTools.calls c.args.tools.now in
    let after = g.T.CountedTools.calls c.build_world_alone.new.tools in
    subst (λ (work : Work). IfOk result
    (λ o. AreCallsFor g.T.CountedTools.answer low work o before after)) (sym c.in-Build.is)
    (subst (λ (given : Given). IfOk result
    (λ o. ∥ IsUsedFor (world_of g.T.CountedTools.answer given) low o
    (as_uses before) (as_uses after) ∥₁))
    c.parts-world.ensures.world c.build_world_alone.ensures.used)
