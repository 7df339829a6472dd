use Rattle.std.proofs.Common.{◌≡◌, ◌∙◌, ℕ, List, Result, ap, refl, sym}
use Rattle.msb_elements.specs.Nodes.{name_of}
use Rattle.msb_laws.specs.Results.{map_ok}
use Rattle.build_world.specs.Elements.{At}
use Rattle.target_body.specs.Children.{
  Kind as TheKind,
  child,
  child_by,
  group,
  group_element,
  kind_of,
  on_error_element,
  task_element,
}
use Rattle.target_body.specs.Left.{child_frames}
use Rattle.target_body.specs.Moments.{Moment, moment, player, state_at}
use Rattle.target_body.specs.Seen.{child_at, seen_run, seen_state}
use Rattle.target_body.specs.States.{State as Now, Stopped, settled}
use Rattle.target_body.specs.Tasks.{task}
use Rattle.target_body.specs.Work.{Work, done, followed_by}
use Rattle.target_body.specs.declared.steps.Ending.TheVariants.{Fine}
use Rattle.target_body.proofs.ChildSteps.{child_ends}
use Rattle.target_body.proofs.Stepping.{all_as}
use Rattle.target_body.proofs.state.State.child.Goals as goal

pub returns-in_ok-settle_after-in-Group-clause-plays :
    goal.returns-in_ok-settle_after-in-Group-clause-plays
returns-in_ok-settle_after-in-Group-clause-plays g c =
    let run = seen_run c.args.context.now.run in
    let e : At = child_at run c.args.place in
    child_ends (player c.args.context.now.run.id.now g.T.CountedTools.answer) run
    c.args.context.now.choice.now
    group_element e c.args.self.now c.group.new.self c.settle_after.new.self
    c.args.journal.now (g.T.CountedTools.calls c.args.tools.now) c.in_ok-ending-in-Group.ending
    c.in_ok-settle_after-in-Group.field-0
    (ap (λ (e : At). kind_of (name_of e.node)) (sym c.child-element.ensures)
    ∙ ap (λ (name : List ℕ). kind_of name) (sym c.name.ensures) ∙ sym c.in-Group.ensures)
    (ap (λ (r : Result Now Stopped). done r)
    (ap (λ (e : At). group run e (seen_state c.args.self.now c.args.journal.now))
    (sym c.child-element.ensures) ∙ sym c.in_ok-ending-in-Group.ensures.ended))
    c.in_ok-ending-in-Group.ensures.kept
    (c.in_ok-settle_after-in-Group.ensures.ended c.args.journal.now)
    c.in_ok-settle_after-in-Group.ensures.kept

pub returns-in_ok-settle_after-in-OnError-clause-plays :
    goal.returns-in_ok-settle_after-in-OnError-clause-plays
returns-in_ok-settle_after-in-OnError-clause-plays g c =
    let run = seen_run c.args.context.now.run in
    let e : At = child_at run c.args.place in
    child_ends (player c.args.context.now.run.id.now g.T.CountedTools.answer) run
    c.args.context.now.choice.now
    on_error_element e c.args.self.now c.args.self.now c.settle_after-in-OnError.new.self
    c.args.journal.now (g.T.CountedTools.calls c.args.tools.now) Fine
    c.in_ok-settle_after-in-OnError.field-0
    (ap (λ (e : At). kind_of (name_of e.node)) (sym c.child-element.ensures)
    ∙ ap (λ (name : List ℕ). kind_of name) (sym c.name.ensures) ∙ sym c.in-OnError.ensures)
    refl refl
    (c.in_ok-settle_after-in-OnError.ensures.ended c.args.journal.now)
    c.in_ok-settle_after-in-OnError.ensures.kept

pub returns-in-Task-clause-plays : goal.returns-in-Task-clause-plays
returns-in-Task-clause-plays g c =
    let run = seen_run c.args.context.now.run in
    let e : At = child_at run c.args.place in
    let f : Result Now Stopped → Work (Result Now Stopped) = λ end. done (map_ok settled end) in
    let before : Moment = moment c.args.self.now c.args.journal.now
    (g.T.CountedTools.calls c.args.tools.now) in
    let after : Moment = moment c.task.new.self c.task.new.journal
    (g.T.CountedTools.calls c.task.new.tools) in
    let named : kind_of (name_of e.node) ≡ task_element =
    ap (λ (e : At). kind_of (name_of e.node)) (sym c.child-element.ensures)
    ∙ ap (λ (name : List ℕ). kind_of name) (sym c.name.ensures) ∙ sym c.in-Task.ensures in
    all_as (child_frames run) (player c.args.context.now.run.id.now g.T.CountedTools.answer)
    (λ s. followed_by (task run c.args.context.now.choice.now e s) f)
    (child run c.args.context.now.choice.now e) before
    after c.task.result
    (ap
    (λ (kind : TheKind). followed_by
    (child_by kind run c.args.context.now.choice.now e (state_at before))
    f) named) c.task.ensures.plays
