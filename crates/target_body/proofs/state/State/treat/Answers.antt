use Rattle.std.proofs.Common.{ap}
use Rattle.target_incremental.specs.declared.decision.Choice.{Choice}
use Rattle.target_body.specs.Moments.{Moment, done_at, moment, player, state_at}
use Rattle.target_body.specs.Pieces.{treated}
use Rattle.target_body.specs.Played.{played}
use Rattle.target_body.specs.Seen.{seen_run}
use Rattle.target_body.proofs.Treating.{all_narrowed, all_treated}
use Rattle.target_body.proofs.state.State.treat.Goals as goal

pub returns-in-Run-clause-plays : goal.returns-in-Run-clause-plays
returns-in-Run-clause-plays g c =
    all_treated (seen_run c.args.context.now)
    (player c.args.context.now.id.now g.T.CountedTools.answer) c.args.choice.now
    c.args.items.now
    (moment c.args.self.now c.args.journal.now (g.T.CountedTools.calls c.args.tools.now))
    (moment c.children-in-Run.new.self c.children-in-Run.new.journal
    (g.T.CountedTools.calls c.children-in-Run.new.tools)) c.children-in-Run.result c.in-Run.is
    c.children-in-Run.ensures.plays

pub returns-in-Nothing-clause-plays : goal.returns-in-Nothing-clause-plays
returns-in-Nothing-clause-plays g c =
    let run = seen_run c.args.context.now in
    let m : Moment = moment c.args.self.now c.args.journal.now
    (g.T.CountedTools.calls c.args.tools.now) in
    ap
    (λ (choice : Choice). played (player c.args.context.now.id.now g.T.CountedTools.answer)
    (treated run choice c.args.items.now (state_at m)) (done_at m)) c.in-Nothing.is

pub returns-in_ok-narrow-in-Part-clause-plays : goal.returns-in_ok-narrow-in-Part-clause-plays
returns-in_ok-narrow-in-Part-clause-plays g c =
    let tools = g.T.CountedTools.calls c.args.tools.now in
    all_narrowed (seen_run c.args.context.now)
    (player c.args.context.now.id.now g.T.CountedTools.answer) c.args.choice.now
    c.args.items.now c.in-Part.old
    c.args.self.now c.narrow.new.self c.args.journal.now tools
    (moment c.children.new.self c.children.new.journal
    (g.T.CountedTools.calls c.children.new.tools)) c.children.result c.in-Part.is
    (c.in_ok-narrow-in-Part.ensures.narrowed c.args.journal.now) c.in_ok-narrow-in-Part.ensures.kept
    c.children.ensures.plays
