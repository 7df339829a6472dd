use Rattle.std.proofs.Common.{◌∙◌}
use Rattle.trial_set.proofs.Counting.{put_step}
use Rattle.trial_set.proofs.sets.put_projects.Goals as goal

pub loop-number-preserved : goal.loop-number-preserved
loop-number-preserved c =
    put_step c.args.size c.loop-number.number c.loop-number.draws.state _ _ _ _ _ _
    c.loop-number-test.true c.in_ok-insert.ensures.entries
    (c.from-path.ensures ∙ c.in_ok-file_of.ensures) c.in_ok-text.ensures.text
    c.in_ok-text.ensures.state c.loop-number.invariant
