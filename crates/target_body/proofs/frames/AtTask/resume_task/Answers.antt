use Rattle.build_world.specs.Elements.{seen_element}
use Rattle.target_body.specs.Moments.{moment}
use Rattle.target_body.proofs.TaskSteps.{task_resumed}
use Rattle.target_body.proofs.frames.AtTask.resume_task.Goals as goal

pub returns-clause-plays : goal.returns-clause-plays
returns-clause-plays g c =
    let tools = g.T.CountedTools.calls c.args.tools.now in
    let tools_then = g.T.CountedTools.calls c.after_call.new.tools in
    task_resumed g.T.CountedTools.answer c.args.self c.args.results.now
    (moment c.args.state.now c.args.journal.now tools)
    (moment c.resume_call.new.self c.resume_call.new.journal tools)
    (moment c.after_call.new.self c.after_call.new.journal tools_then)
    (moment c.after_calls.new.self c.after_call.new.journal tools_then)
    c.in_ok-step.step c.in_ok-step-2.step c.after_calls.result
    c.args.context.now c.of-at.result.context (seen_element c.of-at.result.element)
    c.of-at.result.gives c.of-at.ensures.context c.of-at.ensures.gives c.of-at.ensures.element (
      c.in_ok-step.ensures g.T.CountedTools.answer tools,
      c.in_ok-step-2.ensures.goes,
      c.after_calls.ensures.goes g.T.CountedTools.answer tools_then,
    )
