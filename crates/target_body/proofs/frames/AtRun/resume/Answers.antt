use Rattle.target_body.specs.Left.{bucket_frames, bucket_left, buckets_frames}
use Rattle.target_body.specs.Moments.{moment, player}
use Rattle.target_body.specs.Pieces.{bucket_by}
use Rattle.target_body.specs.Seen.{seen_chooser, seen_run}
use Rattle.target_body.specs.Work.{each_in_turn, unless_stopped}
use Rattle.target_body.proofs.Stepping.{all_joined, begins_on}
use Rattle.target_body.proofs.frames.AtRun.resume.Goals as goal

pub returns-clause-plays : goal.returns-clause-plays
returns-clause-plays g c =
    let run = seen_run c.args.context.now in
    let choose = seen_chooser c.args.context.now in
    let at = c.args.self in
    all_joined (bucket_frames run) (buckets_frames choose run) (player c.args.context.now.id.now
    g.T.CountedTools.answer)
    (λ s. bucket_left run at.at s c.args.results.now c.args.journal.now)
    (λ end. unless_stopped end (each_in_turn (bucket_by choose run at.found) at.later))
    (moment c.args.state.now c.args.journal.now (g.T.CountedTools.calls c.args.tools.now))
    (moment c.resume_bucket.new.state c.resume_bucket.new.journal
    (g.T.CountedTools.calls c.resume_bucket.new.tools))
    (moment c.after_bucket.new.self c.after_bucket.new.journal
    (g.T.CountedTools.calls c.after_bucket.new.tools))
    c.in_ok-step.step c.after_bucket.result c.in_ok-step.ensures.plays c.after_bucket.ensures.goes

pub returns-clause-begun : goal.returns-clause-begun
returns-clause-begun g c = begins_on _ _ _ c.in_ok-step.ensures.begun c.after_bucket.ensures.begun
