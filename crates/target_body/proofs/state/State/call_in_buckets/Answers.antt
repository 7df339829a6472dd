use Rattle.build_world.specs.Elements.{seen_element}
use Rattle.target_body.specs.Moments.{moment, player}
use Rattle.target_body.specs.Seen.{seen_run}
use Rattle.target_body.proofs.TaskSteps.{all_called, called_stops, noted}
use Rattle.target_body.proofs.state.State.call_in_buckets.Goals as goal

pub returns-in_ok-step-in-Ok-clause-plays : goal.returns-in_ok-step-in-Ok-clause-plays
returns-in_ok-step-in-Ok-clause-plays g c =
    let tools = g.T.CountedTools.calls c.calls.new.tools in
    all_called (player c.args.at.now.context.id.now g.T.CountedTools.answer)
    (seen_run c.args.at.now.context) (seen_element c.args.at.now.element) c.args.at.now.gives
    c.in-Ok.buckets c.of-later.result
    (moment c.args.self.now c.args.journal.now (g.T.CountedTools.calls c.args.tools.now))
    (moment c.calls.new.self c.calls.new.journal tools)
    (moment c.after_calls.new.self c.calls.new.journal tools)
    c.in_ok-step-in-Ok.step c.after_calls.result c.in-Ok.ensures c.of-later.ensures
    c.in_ok-step-in-Ok.ensures.plays (c.after_calls.ensures.goes g.T.CountedTools.answer tools)

pub returns-in_ok-note_fault-in-Err-clause-plays : goal.returns-in_ok-note_fault-in-Err-clause-plays
returns-in_ok-note_fault-in-Err-clause-plays g c =
    called_stops (player c.args.at.now.context.id.now g.T.CountedTools.answer)
    (seen_run c.args.at.now.context) (seen_element c.args.at.now.element) c.args.at.now.gives
    c.in-Err.fault c.args.self.now c.note_fault.new.self c.args.journal.now
    (g.T.CountedTools.calls c.args.tools.now)
    (noted c.in-Err.fault.cause c.in_ok-note_fault-in-Err.ensures.cause c.in-Err.ensures)
    c.in_ok-note_fault-in-Err.ensures.noted
