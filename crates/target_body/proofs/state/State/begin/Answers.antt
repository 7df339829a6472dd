use Rattle.std.proofs.Common.{◌∙◌, List, Result, ap, sym}
use Rattle.msb_expand.specs.declared.lens.Bucket.{Bucket}
use Rattle.build_world.specs.declared.fault.EvalFault.{EvalFault}
use Rattle.target_body.specs.Bodies.{buckets_by}
use Rattle.target_body.specs.Left.{buckets_frames}
use Rattle.target_body.specs.Moments.{Moment, done_at, moment, player, state_at}
use Rattle.target_body.specs.Pieces.{bucket_by, or_failed}
use Rattle.target_body.specs.Played.{played}
use Rattle.target_body.specs.Seen.{seen_chooser, seen_run}
use Rattle.target_body.specs.States.{or_stop}
use Rattle.target_body.specs.Work.{each_in_turn, unless_stopped}
use Rattle.target_body.proofs.Faulting.{faulted_so, told}
use Rattle.target_body.proofs.Stepping.{all_as}
use Rattle.target_body.proofs.state.State.begin.Goals as goal

pub returns-in-Ok-clause-plays : goal.returns-in-Ok-clause-plays
returns-in-Ok-clause-plays g c =
    let run = seen_run c.args.context.now in
    let choose = seen_chooser c.args.context.now in
    let before : Moment = moment c.args.self.now c.args.journal.now
    (g.T.CountedTools.calls c.args.tools.now) in
    let after : Moment = moment c.buckets.new.self c.buckets.new.journal
    (g.T.CountedTools.calls c.buckets.new.tools) in
    let part = bucket_by choose run c.args.found in
    all_as (buckets_frames choose run) (player c.args.context.now.id.now g.T.CountedTools.answer)
    (λ s. each_in_turn part c.of.result s) (buckets_by choose run c.args.found) before after
    c.buckets.result
    (ap
    (λ (r : Result (List Bucket) EvalFault). unless_stopped
    (or_failed (or_stop (state_at before) r))
    (λ found. each_in_turn part found (state_at before))) c.in-Ok.ensures
    ∙ ap (λ (found : List Bucket). each_in_turn part found (state_at before)) (sym c.of.ensures))
    c.buckets.ensures.plays

pub returns-in_ok-add_decision-in-Err-clause-plays :
    goal.returns-in_ok-add_decision-in-Err-clause-plays
returns-in_ok-add_decision-in-Err-clause-plays g c =
    let run = seen_run c.args.context.now in
    let choose = seen_chooser c.args.context.now in
    let tools = g.T.CountedTools.calls c.args.tools.now in
    let before : Moment = moment c.args.self.now c.args.journal.now tools in
    let part = bucket_by choose run c.args.found in
    ap (λ (r : Result (List Bucket) EvalFault). played (player c.args.context.now.id.now
    g.T.CountedTools.answer)
    (unless_stopped (or_failed (or_stop (state_at before) r))
    (λ found. each_in_turn part found (state_at before))) (done_at before))
    (told c.in-Err.fault.cause c.in_ok-note_fault-in-Err.ensures.cause c.in-Err.ensures)
    ∙ faulted_so c.in-Err.fault c.args.journal.now tools c.args.self.now c.note_fault.new.self
    c.add_decision.new.self
    c.in_ok-note_fault-in-Err.ensures.noted c.in_ok-add_decision-in-Err.ensures
