use Rattle.std.proofs.Common.{◌∙◌, IfOk, ap, sym, subst, refl}
use Rattle.target_body.specs.Left.{bucket_frames, buckets_frames}
use Rattle.target_body.specs.Moments.{Continues, Moment, moment, player}
use Rattle.target_body.specs.Pieces.{bucket_by}
use Rattle.target_body.specs.Seen.{seen_chooser, seen_run}
use Rattle.target_body.specs.Work.{each_in_turn, unless_stopped}
use Rattle.target_body.specs.declared.frames.AtBucket.{AtBucket}
use Rattle.target_body.specs.declared.frames.AtRun.{AtRun}
use Rattle.target_body.specs.declared.steps.Ending.{Ending}
use Rattle.target_body.specs.declared.steps.Ending.TheVariants.{Faulted, Failed}
use Rattle.target_body.specs.declared.steps.Step.{Step}
use Rattle.target_body.specs.declared.steps.Step.TheVariants.{Over, Waits}
use Rattle.target_body.proofs.state.State.after_bucket.Goals as goal

pub returns-in-Over-Fine-clause-goes : goal.returns-in-Over-Fine-clause-goes
returns-in-Over-Fine-clause-goes g c =
    let run = seen_run c.args.context.now in
    let choose = seen_chooser c.args.context.now in
    let m : Moment = moment c.args.self.now c.args.journal.now
    (g.T.CountedTools.calls c.args.tools.now) in
    let after : Moment = moment c.buckets.new.self c.buckets.new.journal
    (g.T.CountedTools.calls c.buckets.new.tools) in
    let P : Step AtBucket → Type 0 = λ step. IfOk c.buckets.result
    (λ step_then. Continues (bucket_frames run) (buckets_frames choose run)
    (player c.args.context.now.id.now g.T.CountedTools.answer)
    (λ end. unless_stopped end
    (each_in_turn (bucket_by choose run c.args.left.found) c.args.left.later))
    step m step_then after) in
    subst P
    (sym
    (c.in-Over-Fine.is ∙ ap (λ (ending : Ending). Over ending)
    (rw c.in-Over-Fine.is at c.in-Over-Fine.field-0-is))) c.buckets.ensures.plays

pub returns-in-Over-Faulted-clause-goes : goal.returns-in-Over-Faulted-clause-goes
returns-in-Over-Faulted-clause-goes g c =
    let run = seen_run c.args.context.now in
    let choose = seen_chooser c.args.context.now in
    let m : Moment = moment c.args.self.now c.args.journal.now
    (g.T.CountedTools.calls c.args.tools.now) in
    let step_then : Step AtRun = Over Faulted in
    let P : Step AtBucket → Type 0 = λ step. Continues (bucket_frames run)
    (buckets_frames choose run)
    (player c.args.context.now.id.now g.T.CountedTools.answer)
    (λ end. unless_stopped end
    (each_in_turn (bucket_by choose run c.args.left.found) c.args.left.later))
    step m step_then m in
    subst P
    (sym
    (c.in-Over-Faulted.is ∙ ap (λ (ending : Ending). Over ending)
    (rw c.in-Over-Faulted.is at c.in-Over-Faulted.field-0-is))) refl

pub returns-in-Over-Failed-clause-goes : goal.returns-in-Over-Failed-clause-goes
returns-in-Over-Failed-clause-goes g c =
    let run = seen_run c.args.context.now in
    let choose = seen_chooser c.args.context.now in
    let m : Moment = moment c.args.self.now c.args.journal.now
    (g.T.CountedTools.calls c.args.tools.now) in
    let step_then : Step AtRun = Over Failed in
    let P : Step AtBucket → Type 0 = λ step. Continues (bucket_frames run)
    (buckets_frames choose run)
    (player c.args.context.now.id.now g.T.CountedTools.answer)
    (λ end. unless_stopped end
    (each_in_turn (bucket_by choose run c.args.left.found) c.args.left.later))
    step m step_then m in
    subst P
    (sym
    (c.in-Over-Failed.is ∙ ap (λ (ending : Ending). Over ending)
    (rw c.in-Over-Failed.is at c.in-Over-Failed.field-0-is))) refl

pub returns-in-Waits-clause-goes : goal.returns-in-Waits-clause-goes
returns-in-Waits-clause-goes g c =
    let run = seen_run c.args.context.now in
    let choose = seen_chooser c.args.context.now in
    let m : Moment = moment c.args.self.now c.args.journal.now
    (g.T.CountedTools.calls c.args.tools.now) in
    let step_then : Step AtRun = Waits
    (record { found = c.args.left.found; at = c.in-Waits.at; later = c.args.left.later }) in
    let P : Step AtBucket → Type 0 = λ step. Continues (bucket_frames run)
    (buckets_frames choose run)
    (player c.args.context.now.id.now g.T.CountedTools.answer)
    (λ end. unless_stopped end
    (each_in_turn (bucket_by choose run c.args.left.found) c.args.left.later))
    step m step_then m in
    subst P (sym c.in-Waits.is) refl
