use Rattle.std.proofs.Common.{◌≡◌, ◌∙◌, ℕ, List, Bool, Result, true, ap, codes, sym, subst}
use Rattle.std.specs.Str.{bytes_eq}
use Rattle.build_world.specs.Elements.{seen_element}
use Rattle.task_trait.specs.declared.tools.TaskOutput.{TaskOutput}
use Rattle.task_trait.specs.declared.tools.ToolAnswer.{ToolAnswer}
use Rattle.target_body.specs.Answers.{answered, answered_by, msbuild, not_built_in}
use Rattle.target_body.specs.Left.{call_frames}
use Rattle.target_body.specs.Moments.{Moment, done_at, moment, player, state_at}
use Rattle.target_body.specs.Played.{over, played}
use Rattle.target_body.specs.Seen.{ended, seen_run}
use Rattle.target_body.specs.States.{State as Now, Stopped}
use Rattle.target_body.specs.Tasks.{answered_to}
use Rattle.target_body.specs.Work.{Work, done, followed_by}
use Rattle.target_body.proofs.Stepping.{all_as}
use Rattle.target_body.proofs.state.State.answer.Goals as goal

pub returns-in_ok-give-in-Made-clause-plays : goal.returns-in_ok-give-in-Made-clause-plays
returns-in_ok-give-in-Made-clause-plays g c =
    let run = seen_run c.args.named.call.context in
    let e = seen_element c.args.named.call.element in
    let tools = g.T.CountedTools.calls c.args.tools.now in
    let before : Moment = moment c.args.self.now c.args.journal.now tools in
    let after : Moment = moment c.give.new.self c.give.new.journal tools in
    let f : Now × TaskOutput → Work (Result Now Stopped) = λ x.
    done (answered_to run e c.args.named.call.gives c.args.named.call.bucket.now c.args.on_error x)
    in
    let P : ToolAnswer → Type 0 = λ a.
    played (player c.args.named.call.context.id.now g.T.CountedTools.answer)
    (followed_by (answered_by a run (state_at before) c.args.named.task.now c.args.params) f)
    (done_at before)
    ≡ over (ended c.in_ok-give-in-Made.field-0 (state_at after)) (done_at after) in
    subst P (sym (sym c.in_ok-output.ensures ∙ c.in-Made.is))
    (c.in_ok-give-in-Made.ensures g.T.CountedTools.answer tools)

pub returns-in-Unknown-clause-plays : goal.returns-in-Unknown-clause-plays
returns-in-Unknown-clause-plays g c =
    let run = seen_run c.args.named.call.context in
    let e = seen_element c.args.named.call.element in
    let tools = g.T.CountedTools.calls c.args.tools.now in
    let before : Moment = moment c.args.self.now c.args.journal.now tools in
    let f : Now × TaskOutput → Work (Result Now Stopped) = λ x.
    done (answered_to run e c.args.named.call.gives c.args.named.call.bucket.now c.args.on_error x)
    in
    let is_msbuild : bytes_eq c.args.named.task.now (codes "msbuild")
    ≡ true = ap (λ (t : List ℕ). bytes_eq t (codes "msbuild")) (sym c.key.ensures)
    ∙ sym c.eq.ensures ∙ c.if-eq.true in
    all_as (call_frames run e c.args.named.call.gives c.args.named.call.bucket.now)
    (player c.args.named.call.context.id.now g.T.CountedTools.answer)
    (λ s. followed_by (msbuild run s c.args.params) f)
    (λ s. followed_by (answered run s c.args.named.task.now c.args.params) f)
    before (moment c.plan_calls.new.self c.plan_calls.new.journal tools) c.plan_calls.result
    (ap
    (λ (a : ToolAnswer).
    followed_by (answered_by a run (state_at before) c.args.named.task.now c.args.params) f)
    (sym c.in_ok-output.ensures ∙ c.in-Unknown.is)
    ∙ ap
    (λ (b : Bool).
    followed_by (not_built_in b run (state_at before) c.args.named.task.now c.args.params) f)
    is_msbuild)
    (c.plan_calls.ensures g.T.CountedTools.answer tools)
