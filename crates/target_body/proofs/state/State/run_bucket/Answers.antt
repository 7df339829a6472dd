use Rattle.msb_laws.specs.Results.{map_ok}
use Rattle.target_body.specs.Left.{bucket_frames, children_frames}
use Rattle.target_body.specs.Moments.{moment, player}
use Rattle.target_body.specs.Pieces.{or_failed, treated, word_of}
use Rattle.target_body.specs.Returned.{returned}
use Rattle.target_body.specs.Seen.{seen_run}
use Rattle.target_body.specs.States.{with_decision}
use Rattle.target_body.specs.Work.{done, unless_stopped}
use Rattle.target_body.proofs.Deciding.{all_nested}
use Rattle.target_body.proofs.state.State.run_bucket.Goals as goal

pub returns-clause-plays : goal.returns-clause-plays
returns-clause-plays g c =
    let run = seen_run c.args.context.now in
    let tools = g.T.CountedTools.calls c.treat.new.tools in
    all_nested (children_frames run c.args.piece.choice) (bucket_frames run)
    (player c.args.context.now.id.now g.T.CountedTools.answer)
    (treated run c.args.piece.choice c.args.piece.items)
    (λ end.
    unless_stopped end
    (λ s.
    done
    (map_ok (with_decision (word_of c.args.piece.choice c.args.piece.items))
    (returned run c.args.piece.bucket s)))) (λ end. done (or_failed end))
    (moment c.args.self.now c.args.journal.now (g.T.CountedTools.calls c.args.tools.now))
    (moment c.treat.new.self c.treat.new.journal tools)
    (moment c.after_children.new.self c.treat.new.journal tools) c.in_ok-step.step
    c.after_children.result
    c.in_ok-step.ensures.plays
    (c.after_children.ensures g.T.CountedTools.answer tools)
