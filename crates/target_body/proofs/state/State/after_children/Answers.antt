use Rattle.target_body.specs.Moments.{moment, player}
use Rattle.target_body.specs.Seen.{seen_run}
use Rattle.target_body.proofs.Deciding.{bucket_ends, bucket_waits}
use Rattle.target_body.proofs.state.State.after_children.Goals as goal

pub returns-in_ok-end_bucket-in-Over : goal.returns-in_ok-end_bucket-in-Over
returns-in_ok-end_bucket-in-Over c = λ answer tools.
    bucket_ends (seen_run c.args.context.now) c.args.piece.bucket c.args.piece.choice
    c.args.piece.items
    (player c.args.context.now.id.now answer) c.word_of-word.result c.in-Over.ending
    c.in_ok-end_bucket-in-Over.field-0
    c.args.step c.args.self.now c.end_bucket.new.self c.args.journal.now tools c.in-Over.is
    c.word_of-word.ensures c.in_ok-end_bucket-in-Over.ensures.ended
    c.in_ok-end_bucket-in-Over.ensures.kept

pub returns-in-Waits : goal.returns-in-Waits
returns-in-Waits c = λ answer tools.
    bucket_waits (seen_run c.args.context.now) c.args.piece.bucket c.args.piece.choice
    c.args.piece.items
    (player c.args.context.now.id.now answer) c.in-Waits.task c.args.step
    (moment c.args.self.now c.args.journal.now tools) c.in-Waits.is
