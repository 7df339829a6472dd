use Rattle.std.proofs.Common.{Ok, Result, ap, refl, ◌∙◌}
use Rattle.build_world.specs.Elements.{seen_element}
use Rattle.task_kit.specs.Foreign.{foreign_output}
use Rattle.task_trait.specs.declared.tools.TaskOutput.{TaskOutput}
use Rattle.task_trait.specs.declared.tools.ToolAnswer.{ToolAnswer}
use Rattle.target_body.specs.Moments.{moment, player}
use Rattle.target_body.specs.Seen.{seen_run}
use Rattle.target_body.specs.Tasks.{answered_to}
use Rattle.target_body.specs.States.{State as Now, Stopped}
use Rattle.target_body.specs.Work.{Work, done}
use Rattle.target_body.proofs.Giving.{tool_ends}
use Rattle.target_body.proofs.state.State.call_tool.Goals as goal

pub returns-clause-plays : goal.returns-clause-plays
returns-clause-plays g c =
    let run = seen_run c.args.named.call.context in
    let e = seen_element c.args.named.call.element in
    let tools = g.T.CountedTools.calls c.call.new.self in
    let f : Now × TaskOutput → Work (Result Now Stopped) = λ x.
    done (answered_to run e c.args.named.call.gives c.args.named.call.bucket.now c.args.on_error x)
    in
    tool_ends (player c.args.named.call.context.id.now g.T.CountedTools.answer)
    c.args.named.task.now f
    c.args.input.now (Ok c.args.input.now) c.in_ok-output.output
    (moment c.args.self.now c.args.journal.now (g.T.CountedTools.calls c.args.tools.now))
    c.give.new.self c.give.new.journal tools c.in_ok-give.field-0
    refl
    (c.in_ok-output.ensures
    ∙ ap (λ (a : ToolAnswer). foreign_output c.args.named.task.now c.args.self.now.written a)
    c.in_ok-answer.ensures.value)
    c.in_ok-answer.ensures.counted
    (c.in_ok-give.ensures g.T.CountedTools.answer tools)
