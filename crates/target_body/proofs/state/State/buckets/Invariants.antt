use Rattle.std.proofs.Common.{◌≡◌, length}
use Rattle.task_trait.specs.Tools.{BeginsWith}
use Rattle.target_body.specs.Moments.{Moment, done_at, moment, player, state_at}
use Rattle.target_body.specs.Pieces.{bucket_by}
use Rattle.target_body.specs.Played.{played}
use Rattle.target_body.specs.Seen.{seen_chooser, seen_run}
use Rattle.target_body.specs.Work.{each_in_turn}
use Rattle.target_body.proofs.state.State.buckets.Given as goal

abbrev pub invariant-loop-bucket : goal.invariant-loop-bucket
invariant-loop-bucket g l =
    let now : Moment = moment l.self l.journal (g.T.CountedTools.calls l.tools) in
    let first : Moment = moment l.initial.self l.initial.journal
    (g.T.CountedTools.calls l.initial.tools) in
    let part = bucket_by (seen_chooser l.context) (seen_run l.context) l.found in
    record {
      plays : played (player l.context.id.now g.T.CountedTools.answer)
          (each_in_turn part l.later (state_at now)) (done_at now)
          ≡ played (player l.context.id.now g.T.CountedTools.answer)
          (each_in_turn part l.fn.later (state_at first)) (done_at first);
      begun : BeginsWith (g.T.CountedTools.calls l.initial.tools) (g.T.CountedTools.calls l.tools);
    }

abbrev pub decreases-loop-bucket : goal.decreases-loop-bucket
decreases-loop-bucket g l = length l.later
