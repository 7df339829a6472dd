use Rattle.std.proofs.Common.{◌≡◌, drop}
use Rattle.build_world.specs.Elements.{children_of}
use Rattle.task_trait.specs.Tools.{BeginsWith}
use Rattle.target_body.specs.Children.{child}
use Rattle.target_body.specs.Moments.{Moment, done_at, moment, player, state_at}
use Rattle.target_body.specs.Played.{played}
use Rattle.target_body.specs.Seen.{seen_run}
use Rattle.target_body.specs.Work.{each_in_turn}
use Rattle.target_body.proofs.state.State.children.Given as goal

abbrev pub invariant-loop-place : goal.invariant-loop-place
invariant-loop-place g l =
    let now : Moment = moment l.self l.journal (g.T.CountedTools.calls l.tools) in
    let first : Moment = moment l.initial.self l.initial.journal
    (g.T.CountedTools.calls l.initial.tools) in
    let part = child (seen_run l.context.run) l.context.choice.now in
    let elements = children_of (seen_run l.context.run).target.element in
    record {
      plays : played (player l.context.run.id.now g.T.CountedTools.answer)
          (each_in_turn part (drop l.place elements) (state_at now)) (done_at now)
          ≡ played (player l.context.run.id.now g.T.CountedTools.answer)
          (each_in_turn part (drop l.from elements) (state_at first)) (done_at first);
      begun : BeginsWith (g.T.CountedTools.calls l.initial.tools) (g.T.CountedTools.calls l.tools);
    }
