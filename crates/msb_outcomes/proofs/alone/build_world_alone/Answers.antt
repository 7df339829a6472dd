use Rattle.std.proofs.Common.{IfOk, rules, subst}
use Rattle.task_trait.specs.declared.tools.ToolAnswer.{ToolAnswer}
use Rattle.task_trait.specs.declared.tools.ToolInput.{ToolInput}
use Rattle.task_trait.specs.Tools.{BeginsWith}
use Rattle.build_meaning.specs.World.{World}
use Rattle.request_machine.specs.Walk.{Site}
use Rattle.request_machine.specs.Worlds.{root_of, world_of}
use Rattle.build_engine.specs.UsedFor.{IsUsedFor}
use Rattle.msb_outcomes.specs.Calls.{as_uses}
use Rattle.build_steady.proofs.Begun.{calls_begin}
use Rattle.msb_outcomes.proofs.Beginning.{begins_there}
use Rattle.msb_outcomes.proofs.alone.build_world_alone.Goals as goal

pub build_on_one-outcome-requires-clause-place : goal.build_on_one-outcome-requires-clause-place
build_on_one-outcome-requires-clause-place g c = (c.in_ok-walk.ensures.world, c.requires)

pub build_on_one-outcome-requires-clause-begins : goal.build_on_one-outcome-requires-clause-begins
build_on_one-outcome-requires-clause-begins g c =
    let tools = g.T.CountedTools.answer in
    begins_there (world_of tools c.args.world.now)
    (world_of tools c.in_ok-walk.walk.request.world.now) (root_of c.args.world.now)
    c.in_ok-key.key _ c.in_ok-walk.ensures.begins c.in_ok-walk.ensures.world c.in_ok-key.ensures

pub returns-clause-used : goal.returns-clause-used
returns-clause-used g c =
    let calls = g.T.CountedTools.calls in
    let given = world_of g.T.CountedTools.answer c.args.world.now in
    subst (λ (tools : g.row.T.Denot). IfOk c.build_on_one-outcome.result
    (λ o. ∥ IsUsedFor given c.args.low o (as_uses (calls c.args.tools.now))
    (as_uses (calls tools)) ∥₁))
    (search rules)
    (subst (λ (w : World Site ToolInput ToolAnswer). IfOk c.build_on_one-outcome.result
    (λ o. ∥ IsUsedFor w c.args.low o (as_uses (calls c.args.tools.now))
    (as_uses (calls c.build_on_one-outcome.new.place.tools.now)) ∥₁))
    c.in_ok-walk.ensures.world c.build_on_one-outcome.ensures.used)

pub returns-clause-begun : goal.returns-clause-begun
returns-clause-begun g c =
    let calls = g.T.CountedTools.calls in
    subst (λ (tools : g.row.T.Denot). BeginsWith (calls c.args.tools.now) (calls tools))
    (search rules)
    (calls_begin (calls c.args.tools.now) (calls c.build_on_one-outcome.new.place.tools.now)
    c.build_on_one-outcome.ensures.front)
