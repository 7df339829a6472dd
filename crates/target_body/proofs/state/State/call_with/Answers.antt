use Rattle.std.proofs.Common.{◌≡◌, ◌∙◌, ℕ, List, Option, Some, None, Result, ap, sym, subst}
use Rattle.msb_elements.specs.Nodes.{name_of}
use Rattle.msb_values.specs.Keys.{key_of}
use Rattle.build_world.specs.Elements.{seen_element}
use Rattle.task_trait.specs.Failures.{failed}
use Rattle.task_trait.specs.declared.failures.Failure.TheVariants.{UnknownTask}
use Rattle.task_trait.specs.declared.tools.TaskOutput.{TaskOutput}
use Rattle.target_texts.specs.Inferred.{task_of}
use Rattle.target_body.specs.Answers.{answered, given}
use Rattle.target_body.specs.Left.{call_frames}
use Rattle.target_body.specs.Moments.{Moment, done_at, moment, player, state_at}
use Rattle.target_body.specs.Played.{over, played}
use Rattle.target_body.specs.Seen.{ended, seen_run}
use Rattle.target_body.specs.States.{State as Now, Stopped}
use Rattle.target_body.specs.Tasks.{answered_if, answered_to, called_with}
use Rattle.target_body.specs.Work.{Work, done, followed_by}
use Rattle.target_body.proofs.Stepping.{all_as}
use Rattle.target_body.proofs.state.State.call_with.Goals as goal

pub returns-in-Some-clause-plays : goal.returns-in-Some-clause-plays
returns-in-Some-clause-plays g c =
    let run = seen_run c.args.call.now.context in
    let e = seen_element c.args.call.now.element in
    let before : Moment = moment c.args.self.now c.args.journal.now
    (g.T.CountedTools.calls c.args.tools.now) in
    let f : Now × TaskOutput → Work (Result Now Stopped) = λ x.
    done (answered_to run e c.args.call.now.gives c.args.call.now.bucket.now c.args.on_error x)
    in
    let named : key_of (name_of e.node) ≡ Some c.in-Some.task = ap (λ (name : List ℕ). key_of name)
    (sym c.name.ensures) ∙ sym c.in_ok-task.ensures ∙ c.in-Some.is in
    all_as (call_frames run e c.args.call.now.gives c.args.call.now.bucket.now)
    (player c.args.call.now.context.id.now g.T.CountedTools.answer)
    (λ s. followed_by (answered run s c.in-Some.task c.args.params) f)
    (λ s. called_with run e c.args.call.now.gives c.args.call.now.bucket.now s
    (Some (c.args.on_error, c.args.params)))
    before
    (moment c.answer.new.self c.answer.new.journal (g.T.CountedTools.calls c.answer.new.tools))
    c.answer.result
    (ap
    (λ (k : Option (List ℕ)). followed_by (answered_if k run (state_at before) e c.args.params)
    f) named)
    c.answer.ensures.plays

pub returns-in_ok-give-in-None-clause-plays : goal.returns-in_ok-give-in-None-clause-plays
returns-in_ok-give-in-None-clause-plays g c =
    let run = seen_run c.args.call.now.context in
    let e = seen_element c.args.call.now.element in
    let tools = g.T.CountedTools.calls c.args.tools.now in
    let before : Moment = moment c.args.self.now c.args.journal.now tools in
    let after : Moment = moment c.give.new.self c.give.new.journal tools in
    let p = player c.args.call.now.context.id.now g.T.CountedTools.answer in
    let f : Now × TaskOutput → Work (Result Now Stopped) = λ x.
    done (answered_to run e c.args.call.now.gives c.args.call.now.bucket.now c.args.on_error x)
    in
    let unnamed : key_of (name_of e.node) ≡ None = ap (λ (name : List ℕ). key_of name)
    (sym c.name.ensures) ∙ sym c.in_ok-task.ensures ∙ c.in-None.is in
    let told : c.in_ok-output-in-None.output ≡ failed (task_of e) UnknownTask =
    c.in_ok-output-in-None.ensures.output ∙ ap (λ (name : List ℕ). failed name UnknownTask)
    (c.as_str.ensures ∙ c.in_ok-task-in-None.ensures) in
    let P : TaskOutput
    → Type 0 = λ o. played p (followed_by (given (state_at before) o) f) (done_at before)
    ≡ over (ended c.in_ok-give-in-None.field-0 (state_at after)) (done_at after) in
    ap
    (λ (k : Option (List ℕ)).
    played p (followed_by (answered_if k run (state_at before) e c.args.params) f)
    (done_at before)) unnamed
    ∙ subst P told (c.in_ok-give-in-None.ensures g.T.CountedTools.answer tools)
