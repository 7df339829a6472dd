use Rattle.std.proofs.Common.{suc, drop}
use Rattle.build_world.specs.Elements.{children_of}
use Rattle.target_body.specs.Children.{child}
use Rattle.target_body.specs.Left.{child_frames, child_left, children_frames}
use Rattle.target_body.specs.Moments.{moment, player}
use Rattle.target_body.specs.Seen.{seen_run}
use Rattle.target_body.specs.Work.{each_in_turn, unless_stopped}
use Rattle.target_body.proofs.Stepping.{all_joined}
use Rattle.target_body.proofs.state.State.resume_children.Goals as goal

pub returns-clause-plays : goal.returns-clause-plays
returns-clause-plays g c =
    let run = seen_run c.args.context.now.run in
    all_joined (child_frames run) (children_frames run c.args.context.now.choice.now)
    (player c.args.context.now.run.id.now g.T.CountedTools.answer)
    (λ s. child_left run c.args.task s c.args.results.now c.args.journal.now)
    (λ end.
    unless_stopped end
    (each_in_turn (child run c.args.context.now.choice.now)
    (drop (suc c.args.task.child) (children_of run.target.element))))
    (moment c.args.self.now c.args.journal.now (g.T.CountedTools.calls c.args.tools.now))
    (moment c.resume_task.new.state c.resume_task.new.journal
    (g.T.CountedTools.calls c.resume_task.new.tools))
    (moment c.after_child.new.self c.after_child.new.journal
    (g.T.CountedTools.calls c.after_child.new.tools))
    c.in_ok-step.step c.after_child.result c.in_ok-step.ensures.plays c.after_child.ensures.goes
