use Rattle.std.proofs.Common.{ℕ, ◌<◌, ◌≤◌, IfOk, subst, sym, ◌∙◌}
use denote.Exit.{no}
use denote.Param.Send.{arg_send, param_send}
use Rattle.build_engine.specs.OnNodes.{IsOutcomeOn}
use Rattle.build_outcome.specs.Outcomes.{IsOutcome}
use Rattle.build_world.specs.declared.world.World.{World as Given}
use Rattle.build_engine.proofs.Using.{each_on_one}
use Rattle.request_machine.specs.Worlds.{world_of}
use Rattle.task_trait.proofs.tools.Counted.TheSendSync as counted
use Rattle.msb_outcomes.proofs.on_nodes.build_world_on.Goals as goal

pub returns-then-nodes-eq1-clause-nodes : goal.returns-then-nodes-eq1-clause-nodes
returns-then-nodes-eq1-clause-nodes g c =
    let result = c.build_world_alone-outcome.result in
    let given = world_of g.T.Tools.answer c.parts-world.result.0 in
    subst (λ (given : Given). IfOk result
    (λ o. ∥ IsOutcomeOn (world_of g.T.Tools.answer given) c.args.nodes c.args.low o ∥₁))
    c.parts-world.ensures.world
    (subst (λ (nodes : ℕ). IfOk result (λ o. ∥ IsOutcomeOn given nodes c.args.low o ∥₁))
    (sym c.if-nodes-eq1.true)
    (each_on_one given c.args.low result _ _ c.build_world_alone-outcome.ensures.used))

pub returns-then-nodes-eq1-clause-outcome : goal.returns-then-nodes-eq1-clause-outcome
returns-then-nodes-eq1-clause-outcome g c =
    subst (λ (given : Given). IfOk c.build_world_alone-outcome.result
    (λ o. ∥ IsOutcome (world_of g.T.Tools.answer given) c.args.low o ∥₁))
    c.parts-world.ensures.world c.build_world_alone-outcome.ensures.outcome

pub build_at_contexts-outcome-requires-send-T : goal.build_at_contexts-outcome-requires-send-T
build_at_contexts-outcome-requires-send-T g c κs within =
    param_send _ _ (arg_send _ no _ (counted.the_send _ _ c.type_bounds.sync-T))

pub returns-clause-outcome : goal.returns-clause-outcome
returns-clause-outcome g c =
    subst (λ (given : Given). IfOk c.build_at_contexts-outcome.result
    (λ o. ∥ IsOutcome (world_of g.T.Tools.answer given) c.args.low o ∥₁))
    c.parts-world.ensures.world c.build_at_contexts-outcome.ensures.outcome

pub returns-clause-nodes : goal.returns-clause-nodes
returns-clause-nodes g c =
    subst (λ (given : Given). IfOk c.build_at_contexts-outcome.result
    (λ o. ∥ IsOutcomeOn (world_of g.T.Tools.answer given) c.args.nodes c.args.low o ∥₁))
    c.parts-world.ensures.world
    (subst (λ nodes. IfOk c.build_at_contexts-outcome.result (λ o.
    ∥ IsOutcomeOn (world_of g.T.Tools.answer c.parts-world.result.0) nodes c.args.low o ∥₁))
    (c.in_ok-contexts.ensures.count ∙ c.in_ok-counted.ensures)
    c.build_at_contexts-outcome.ensures.nodes)

pub build_at_contexts-outcome-requires-clause-count :
    goal.build_at_contexts-outcome-requires-clause-count
build_at_contexts-outcome-requires-clause-count g c κs within =
    subst (λ n. (0 < n) × (n ≤ 64)) (sym (c.in_ok-contexts.ensures.count ∙ c.in_ok-counted.ensures))
    c.requires
