use Rattle.target_body.specs.Moments.{moment}
use Rattle.target_body.specs.Seen.{seen_chooser, seen_run}
use Rattle.target_body.proofs.Telling.{all_resumed}
use Rattle.target_body.proofs.body.Waiting.resume.Goals as goal

pub returns-clause-goes : goal.returns-clause-goes
returns-clause-goes g c =
    let w = c.args.self in
    all_resumed g.T.CountedTools.answer c.args.context.now.id.now (seen_chooser c.args.context.now)
    (seen_run c.args.context.now) c.args.journal.now (g.T.CountedTools.calls c.args.tools.now)
    (moment c.resume.new.state c.resume.new.journal (g.T.CountedTools.calls c.resume.new.tools))
    c.in_ok-step.step
    w.at c.waiting.result.now c.args.results.now c.as_slice.result.now w.state
    c.add_calls.new.self c.tell.result
    c.in_ok-add_calls.ensures c.waiting.ensures c.as_slice.ensures
    c.in_ok-step.ensures.plays c.tell.ensures
