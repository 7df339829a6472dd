use Rattle.std.proofs.Common.{IfOk, ◌≡◌, [], ap, rules, subst, sym, ◌∙◌}
use Rattle.task_trait.specs.declared.tools.ToolAnswer.{ToolAnswer}
use Rattle.task_trait.specs.declared.tools.ToolInput.{ToolInput}
use Rattle.task_trait.specs.Tools.{BeginsWith}
use Rattle.build_meaning.specs.World.{World}
use Rattle.build_scheduler.specs.Position.{begins}
use Rattle.request_machine.specs.Walk.{Site}
use Rattle.build_steady.specs.Verdicts.{verdict_of}
use Rattle.build_steady.proofs.Begun.{calls_begin}
use Rattle.build_steady.proofs.checked.check.Goals as goal

pub check_walk-verdict-requires-clause-root : goal.check_walk-verdict-requires-clause-root
check_walk-verdict-requires-clause-root g c =
    ap (λ k. k.instance) c.in_ok-key.ensures
    ∙ sym (ap (λ (w : World Site ToolInput ToolAnswer). w.root.instance) c.in_ok-walk.ensures.world)

pub check_walk-verdict-requires-clause-place : goal.check_walk-verdict-requires-clause-place
check_walk-verdict-requires-clause-place g c = (c.in_ok-walk.ensures.world, c.requires)

pub check_walk-verdict-requires-clause-begins : goal.check_walk-verdict-requires-clause-begins
check_walk-verdict-requires-clause-begins g c =
    c.in_ok-walk.ensures.begins
    ∙ sym (ap (λ (w : World Site ToolInput ToolAnswer). begins w w.root [])
    c.in_ok-walk.ensures.world)

pub returns-clause-verdict : goal.returns-clause-verdict
returns-clause-verdict g c =
    subst (λ (w : World Site ToolInput ToolAnswer).
    IfOk c.check_walk-verdict.result (λ verdict. verdict ≡ verdict_of w)) c.in_ok-walk.ensures.world
    c.check_walk-verdict.ensures.verdict

pub returns-clause-begun : goal.returns-clause-begun
returns-clause-begun g c =
    let calls = g.T.CountedTools.calls in
    subst (λ (tools : g.row.T.Denot). BeginsWith (calls c.args.tools.now) (calls tools))
    (search rules)
    (calls_begin (calls c.args.tools.now) (calls c.check_walk-verdict.new.place.tools.now)
    c.check_walk-verdict.ensures.front)
