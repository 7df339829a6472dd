use Rattle.std.proofs.Common.{◌∙◌, Option, None, Result, ap, option_map, sym}
use Rattle.target_incremental.specs.declared.decision.Choice.{Choice}
use Rattle.target_incremental.specs.declared.decision.Choice.TheVariants.{Run as RunAll}
use Rattle.target_texts.specs.Seen.{seen_lists}
use Rattle.target_texts.specs.declared.lists.Lists.{Lists}
use Rattle.target_body.specs.Left.{bucket_frames}
use Rattle.target_body.specs.Moments.{Moment, moment, player, state_at}
use Rattle.target_body.specs.Pieces.{chosen_or_run, decided, or_failed}
use Rattle.target_body.specs.Seen.{seen_chooser, seen_run}
use Rattle.target_body.specs.States.{State as Now, Stopped}
use Rattle.target_body.specs.Work.{Work, done, followed_by}
use Rattle.target_body.proofs.Stepping.{all_as}
use Rattle.target_body.proofs.state.State.piece.Goals as goal

pub returns-in_ok-choice-in-Some-clause-plays : goal.returns-in_ok-choice-in-Some-clause-plays
returns-in_ok-choice-in-Some-clause-plays g c =
    let run = seen_run c.args.context.now in
    let choose = seen_chooser c.args.context.now in
    let tools = g.T.CountedTools.calls c.args.tools.now in
    let before : Moment = moment c.args.self.now c.args.journal.now tools in
    let last : Result Now Stopped → Work (Result Now Stopped) = λ end. done (or_failed end) in
    all_as (bucket_frames run) (player c.args.context.now.id.now g.T.CountedTools.answer)
    (λ s.
    followed_by
    (decided run c.args.bucket c.in_ok-choice-in-Some.choice c.in-Some.lists.items s) last)
    (λ s. followed_by (chosen_or_run choose run c.args.bucket s
    (option_map seen_lists c.args.lists)) last)
    before
    (moment c.run_bucket.new.self c.run_bucket.new.journal
    (g.T.CountedTools.calls c.run_bucket.new.tools)) c.run_bucket.result
    (ap (λ (lists : Option Lists). followed_by (chosen_or_run choose run c.args.bucket
    (state_at before) (option_map seen_lists lists)) last) c.in-Some.is
    ∙ ap
    (λ (choice : Choice).
    followed_by (decided run c.args.bucket choice c.in-Some.lists.items (state_at before)) last)
    (sym c.in_ok-choice-in-Some.ensures))
    c.run_bucket.ensures.plays

pub returns-in-None-clause-plays : goal.returns-in-None-clause-plays
returns-in-None-clause-plays g c =
    let run = seen_run c.args.context.now in
    let choose = seen_chooser c.args.context.now in
    let tools = g.T.CountedTools.calls c.args.tools.now in
    let before : Moment = moment c.args.self.now c.args.journal.now tools in
    let last : Result Now Stopped → Work (Result Now Stopped) = λ end. done (or_failed end) in
    all_as (bucket_frames run) (player c.args.context.now.id.now g.T.CountedTools.answer)
    (λ s. followed_by (decided run c.args.bucket RunAll None s) last)
    (λ s. followed_by (chosen_or_run choose run c.args.bucket s
    (option_map seen_lists c.args.lists)) last)
    before
    (moment c.run_bucket-in-None.new.self c.run_bucket-in-None.new.journal
    (g.T.CountedTools.calls c.run_bucket-in-None.new.tools)) c.run_bucket-in-None.result
    (ap (λ (lists : Option Lists). followed_by (chosen_or_run choose run c.args.bucket
    (state_at before) (option_map seen_lists lists)) last) c.in-None.is)
    c.run_bucket-in-None.ensures.plays
