use Rattle.msb_laws.specs.Results.{map_ok}
use Rattle.target_body.specs.Left.{bucket_frames, children_frames, children_left}
use Rattle.target_body.specs.Moments.{moment, player}
use Rattle.target_body.specs.Pieces.{or_failed, word_of}
use Rattle.target_body.specs.Returned.{returned}
use Rattle.target_body.specs.Seen.{seen_run}
use Rattle.target_body.specs.States.{with_decision}
use Rattle.target_body.specs.Work.{done, unless_stopped}
use Rattle.target_body.proofs.Deciding.{all_nested}
use Rattle.target_body.proofs.frames.AtBucket.resume_bucket.Goals as goal

pub returns-clause-plays : goal.returns-clause-plays
returns-clause-plays g c =
    let run = seen_run c.args.context.now in
    let at = c.args.self in
    let tools = g.T.CountedTools.calls c.resume_children.new.tools in
    all_nested (children_frames run at.choice) (bucket_frames run)
    (player c.args.context.now.id.now g.T.CountedTools.answer)
    (λ s. children_left run at.choice at.task s c.args.results.now c.args.journal.now)
    (λ end.
    unless_stopped end
    (λ s.
    done (map_ok (with_decision (word_of at.choice at.items)) (returned run at.bucket s))))
    (λ end. done (or_failed end))
    (moment c.args.state.now c.args.journal.now (g.T.CountedTools.calls c.args.tools.now))
    (moment c.resume_children.new.self c.resume_children.new.journal tools)
    (moment c.after_children.new.self c.resume_children.new.journal tools) c.in_ok-step.step
    c.after_children.result c.in_ok-step.ensures.plays
    (c.after_children.ensures g.T.CountedTools.answer tools)
