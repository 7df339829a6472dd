use Rattle.std.proofs.Common.{◌∙◌, ap}
use Rattle.build_world.specs.Elements.{seen_element}
use Rattle.target_body.specs.Left.{call_frames, calls_frames}
use Rattle.target_body.specs.Moments.{moment, player, reached_by}
use Rattle.target_body.specs.Played.{reached_then}
use Rattle.target_body.specs.Seen.{seen_run}
use Rattle.target_body.specs.Tasks.{call}
use Rattle.target_body.specs.Work.{each_in_turn, unless_stopped}
use Rattle.target_body.specs.declared.frames.AtCall.{AtCall}
use Rattle.target_body.specs.declared.steps.Ending.{Ending}
use Rattle.target_body.specs.declared.steps.Ending.TheVariants.{Fine}
use Rattle.target_body.specs.declared.steps.Step.{Step}
use Rattle.target_body.specs.declared.steps.Step.TheVariants.{Over}
use Rattle.target_body.proofs.TaskSteps.{calls_wait_so, goes_as}
use Rattle.target_body.proofs.state.State.after_call.Goals as goal

pub returns-in-Fine-clause-goes : goal.returns-in-Fine-clause-goes
returns-in-Fine-clause-goes g c =
    let run = seen_run c.args.at.now.context in
    let e = seen_element c.args.at.now.element in
    goes_as (call_frames run e c.args.at.now.gives c.args.buckets.bucket) (calls_frames run)
    (player c.args.at.now.context.id.now g.T.CountedTools.answer)
    (λ end. unless_stopped end (each_in_turn (call run e c.args.at.now.gives) c.args.buckets.later))
    (moment c.args.self.now c.args.journal.now (g.T.CountedTools.calls c.args.tools.now))
    (moment c.calls.new.self c.calls.new.journal (g.T.CountedTools.calls c.calls.new.tools))
    c.args.step (Over Fine) c.calls.result (c.in-Over.is
    ∙ ap (λ (ending : Ending). Over ending) c.in-Fine.is) c.calls.ensures.plays

pub returns-clause-goes : goal.returns-clause-goes
returns-clause-goes g c =
    let run = seen_run c.args.at.now.context in
    let e = seen_element c.args.at.now.element in
    let p = player c.args.at.now.context.id.now g.T.CountedTools.answer in
    let m = moment c.args.self.now c.args.journal.now (g.T.CountedTools.calls c.args.tools.now) in
    ap
    (λ (step : Step AtCall). reached_then p
    (reached_by (call_frames run e c.args.at.now.gives c.args.buckets.bucket) step m)
    (λ end. unless_stopped end
    (each_in_turn (call run e c.args.at.now.gives) c.args.buckets.later)))
    c.in-Waits.is
    ∙ calls_wait_so p run e c.args.at.now.child c.args.at.now.gives c.args.buckets.bucket
    c.args.buckets.later
    c.in-Waits.call m c.requires
