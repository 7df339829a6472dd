use Rattle.std.proofs.Common.{◌∙◌, ℕ, List, Result, Ok, false, ap, sym}
use Rattle.msb_files.specs.Views.{View}
use Rattle.build_world.specs.Elements.{seen_element}
use Rattle.task_kit.specs.Foreign.{foreign_input}
use Rattle.task_trait.specs.Failures.{failed}
use Rattle.task_trait.specs.declared.failures.Failure.{Failure}
use Rattle.task_trait.specs.declared.tools.TaskOutput.{TaskOutput}
use Rattle.task_trait.specs.declared.tools.ToolInput.{ToolInput}
use Rattle.task_trait.proofs.Stopping.{told}
use Rattle.target_body.specs.Answers.{not_built_in, tool}
use Rattle.target_body.specs.Left.{call_frames}
use Rattle.target_body.specs.Moments.{Moment, moment, player, state_at}
use Rattle.target_body.specs.Seen.{seen_run}
use Rattle.target_body.specs.Tasks.{answered_to}
use Rattle.target_body.specs.States.{State as Now, Stopped}
use Rattle.target_body.specs.Work.{Work, done, followed_by}
use Rattle.target_body.proofs.Giving.{tool_fails}
use Rattle.target_body.proofs.Stepping.{all_as}
use Rattle.target_body.proofs.state.State.use_tool.Goals as goal

pub returns-in-Ok-clause-plays : goal.returns-in-Ok-clause-plays
returns-in-Ok-clause-plays g c =
    let run = seen_run c.args.named.call.context in
    let e = seen_element c.args.named.call.element in
    let before : Moment = moment c.args.self.now c.args.journal.now
    (g.T.CountedTools.calls c.args.tools.now) in
    let f : Now × TaskOutput → Work (Result Now Stopped) = λ x.
    done (answered_to run e c.args.named.call.gives c.args.named.call.bucket.now c.args.on_error x)
    in
    all_as (call_frames run e c.args.named.call.gives c.args.named.call.bucket.now)
    (player c.args.named.call.context.id.now g.T.CountedTools.answer)
    (λ s. followed_by (tool c.args.named.task.now s (Ok c.in-Ok.input)) f)
    (λ s. followed_by (not_built_in false run s c.args.named.task.now c.args.params) f)
    before
    (moment c.call_tool.new.self c.call_tool.new.journal
    (g.T.CountedTools.calls c.call_tool.new.tools)) c.call_tool.result
    (ap (λ (r : Result ToolInput Failure). followed_by
    (tool c.args.named.task.now (state_at before) r) f)
    (ap
    (λ (folder : List ℕ). foreign_input folder
    (record { files = run.files; journal = c.args.journal.now }) c.args.params)
    (sym c.folder.ensures)
    ∙ ap (λ (view : View). foreign_input c.folder.result.now view c.args.params)
    (sym c.of-view.ensures) ∙ c.in-Ok.ensures))
    c.call_tool.ensures.plays

pub returns-in_ok-give-in-Err-clause-plays : goal.returns-in_ok-give-in-Err-clause-plays
returns-in_ok-give-in-Err-clause-plays g c =
    let run = seen_run c.args.named.call.context in
    let e = seen_element c.args.named.call.element in
    let tools = g.T.CountedTools.calls c.args.tools.now in
    let f : Now × TaskOutput → Work (Result Now Stopped) = λ x.
    done (answered_to run e c.args.named.call.gives c.args.named.call.bucket.now c.args.on_error x)
    in
    tool_fails (player c.args.named.call.context.id.now g.T.CountedTools.answer)
    c.args.named.task.now f
    c.in-Err.failure _ c.in_ok-output-in-Err.output
    (moment c.args.self.now c.args.journal.now tools)
    (moment c.give.new.self c.give.new.journal tools) c.in_ok-give-in-Err.field-0
    (ap
    (λ (folder : List ℕ). foreign_input folder
    (record { files = run.files; journal = c.args.journal.now }) c.args.params)
    (sym c.folder.ensures)
    ∙ ap (λ (view : View). foreign_input c.folder.result.now view c.args.params)
    (sym c.of-view.ensures)
    ∙ told c.in-Err.failure c.in_ok-output-in-Err.ensures.told c.in-Err.ensures)
    (c.in_ok-output-in-Err.ensures.output ∙ ap (λ (name : List ℕ). failed name c.in-Err.failure)
    c.key.ensures)
    (c.in_ok-give-in-Err.ensures g.T.CountedTools.answer tools)
