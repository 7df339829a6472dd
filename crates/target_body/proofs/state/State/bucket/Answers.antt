use Rattle.std.proofs.Common.{◌∙◌, Option, Result, ap, option_map}
use Rattle.build_world.specs.declared.fault.EvalFault.{EvalFault}
use Rattle.target_texts.specs.Lists.{Lists}
use Rattle.target_texts.specs.Seen.{seen_lists}
use Rattle.target_body.specs.Left.{bucket_frames}
use Rattle.target_body.specs.Moments.{Moment, done_at, moment, player, state_at}
use Rattle.target_body.specs.Pieces.{chosen_or_run, in_bucket, or_failed}
use Rattle.target_body.specs.Played.{played}
use Rattle.target_body.specs.Seen.{seen_chooser, seen_run}
use Rattle.target_body.specs.States.{State as Now, Stopped, or_stop}
use Rattle.target_body.specs.Work.{Work, done, followed_by, unless_stopped}
use Rattle.target_body.specs.declared.steps.Ending.TheVariants.{Faulted}
use Rattle.target_body.specs.declared.steps.Step.TheVariants.{Over}
use Rattle.target_body.proofs.Deciding.{all_entered, entered}
use Rattle.target_body.proofs.Faulting.{faulted_so, told}
use Rattle.target_body.proofs.Stepping.{all_as}
use Rattle.target_body.proofs.state.State.bucket.Goals as goal

pub returns-in-Ok-clause-plays : goal.returns-in-Ok-clause-plays
returns-in-Ok-clause-plays g c =
    let run = seen_run c.args.context.now in
    let choose = seen_chooser c.args.context.now in
    let p = player c.args.context.now.id.now g.T.CountedTools.answer in
    let tools = g.T.CountedTools.calls c.args.tools.now in
    let begun : Moment = moment c.enter.new.self c.args.journal.now tools in
    let after : Moment = moment c.piece.new.self c.piece.new.journal
    (g.T.CountedTools.calls c.piece.new.tools) in
    let bucket = c.args.bucket in
    let last : Result Now Stopped → Work (Result Now Stopped) = λ end. done (or_failed end) in
    all_entered choose run bucket p c.args.found.now c.args.self.now c.enter.new.self
    c.args.journal.now tools after c.piece.result c.in_ok-enter.ensures
    (all_as (bucket_frames run) p (λ s. followed_by (chosen_or_run choose run bucket s
    (option_map seen_lists c.in-Ok.lists)) last) (in_bucket choose run bucket) begun after
    c.piece.result
    (ap (λ (r : Result (Option Lists) EvalFault). followed_by
    (unless_stopped (or_stop (state_at begun) r) (chosen_or_run choose run bucket
    (state_at begun))) last) c.in-Ok.ensures)
    c.piece.ensures.plays)

pub returns-in_ok-add_decision-in-Err-clause-plays :
    goal.returns-in_ok-add_decision-in-Err-clause-plays
returns-in_ok-add_decision-in-Err-clause-plays g c =
    let run = seen_run c.args.context.now in
    let choose = seen_chooser c.args.context.now in
    let p = player c.args.context.now.id.now g.T.CountedTools.answer in
    let tools = g.T.CountedTools.calls c.args.tools.now in
    let begun : Moment = moment c.enter.new.self c.args.journal.now tools in
    let after : Moment = moment c.add_decision.new.self c.args.journal.now tools in
    let bucket = c.args.bucket in
    let last : Result Now Stopped → Work (Result Now Stopped) = λ end. done (or_failed end) in
    entered choose run bucket p c.args.found.now c.args.self.now c.enter.new.self
    c.args.journal.now tools after (Over Faulted) c.in_ok-enter.ensures
    (ap (λ (r : Result (Option Lists) EvalFault). played p
    (followed_by (unless_stopped (or_stop (state_at begun) r) (chosen_or_run choose run bucket
    (state_at begun))) last) (done_at begun))
    (told c.in-Err.fault.cause c.in_ok-note_fault-in-Err.ensures.cause c.in-Err.ensures)
    ∙ faulted_so c.in-Err.fault c.args.journal.now tools c.enter.new.self c.note_fault.new.self
    c.add_decision.new.self
    c.in_ok-note_fault-in-Err.ensures.noted c.in_ok-add_decision-in-Err.ensures)
