use Rattle.std.proofs.Common.{◌∙◌, ◌+◌, ◌<◌, ◌≤◌, ap, add-one, arith, drop, length, refl, sym, suc}
use Rattle.std.proofs.lemmas.List.{drop_all, length-map}
use Rattle.msb_elements.specs.Nodes.{children_in}
use Rattle.build_world.specs.Elements.{at, children_of}
use Rattle.target_body.specs.Children.{child}
use Rattle.target_body.specs.Left.{child_frames}
use Rattle.target_body.specs.Moments.{Moment, moment, player, reached_by}
use Rattle.target_body.specs.Played.{reached_then}
use Rattle.target_body.specs.Seen.{seen_run}
use Rattle.target_body.specs.Work.{each_in_turn, unless_stopped}
use Rattle.target_body.specs.declared.frames.AtTask.{AtTask}
use Rattle.target_body.specs.declared.steps.Ending.{Ending}
use Rattle.target_body.specs.declared.steps.Step.{Step}
use Rattle.target_body.specs.declared.steps.Step.TheVariants.{Over}
use Rattle.target_body.proofs.ChildSteps.{child_waits_here, one_child}
use Rattle.target_body.proofs.Stepping.{begins_on, none_left}
use Rattle.target_body.proofs.state.State.children.Goals as goal

pub returns-in-Over-Faulted-clause-plays : goal.returns-in-Over-Faulted-clause-plays
returns-in-Over-Faulted-clause-plays g c =
    let run = seen_run c.args.context.now.run in
    let p = player c.args.context.now.run.id.now g.T.CountedTools.answer in
    let place = c.loop-place.place in
    let now : Moment = moment c.loop-place.self c.loop-place.journal
    (g.T.CountedTools.calls c.loop-place.tools) in
    let after : Moment = moment c.child.new.self c.child.new.journal
    (g.T.CountedTools.calls c.child.new.tools) in
    let within : place < length (children_of run.target.element) = omega (
      arith,
      c.loop-place-test.true,
      c.count-place-end.ensures,
      length-map
          (children_in run.target.element.node) (at run.target.element.file),
    ) in
    sym c.loop-place.invariant.plays
    ∙ one_child p run c.args.context.now.choice.now place (suc place) now after
    c.in_ok-child.field-0 refl
    within c.in_ok-child.ensures.plays
    ∙ ap
    (λ (step : Step AtTask). reached_then p (reached_by (child_frames run) step after)
    (λ end.
    unless_stopped end
    (each_in_turn (child run c.args.context.now.choice.now)
    (drop (suc place) (children_of run.target.element)))))
    (c.in-Over-Faulted.is ∙ ap (λ (ending : Ending). Over ending) c.in-Over-Faulted.field-0-is)

pub returns-in-Over-Failed-clause-plays : goal.returns-in-Over-Failed-clause-plays
returns-in-Over-Failed-clause-plays g c =
    let run = seen_run c.args.context.now.run in
    let p = player c.args.context.now.run.id.now g.T.CountedTools.answer in
    let place = c.loop-place.place in
    let now : Moment = moment c.loop-place.self c.loop-place.journal
    (g.T.CountedTools.calls c.loop-place.tools) in
    let after : Moment = moment c.child.new.self c.child.new.journal
    (g.T.CountedTools.calls c.child.new.tools) in
    let within : place < length (children_of run.target.element) = omega (
      arith,
      c.loop-place-test.true,
      c.count-place-end.ensures,
      length-map
          (children_in run.target.element.node) (at run.target.element.file),
    ) in
    sym c.loop-place.invariant.plays
    ∙ one_child p run c.args.context.now.choice.now place (suc place) now after
    c.in_ok-child.field-0 refl
    within c.in_ok-child.ensures.plays
    ∙ ap
    (λ (step : Step AtTask). reached_then p (reached_by (child_frames run) step after)
    (λ end.
    unless_stopped end
    (each_in_turn (child run c.args.context.now.choice.now)
    (drop (suc place) (children_of run.target.element)))))
    (c.in-Over-Failed.is ∙ ap (λ (ending : Ending). Over ending) c.in-Over-Failed.field-0-is)

pub returns-in-Waits-clause-plays : goal.returns-in-Waits-clause-plays
returns-in-Waits-clause-plays g c =
    let run = seen_run c.args.context.now.run in
    let p = player c.args.context.now.run.id.now g.T.CountedTools.answer in
    let place = c.loop-place.place in
    let now : Moment = moment c.loop-place.self c.loop-place.journal
    (g.T.CountedTools.calls c.loop-place.tools) in
    let after : Moment = moment c.child.new.self c.child.new.journal
    (g.T.CountedTools.calls c.child.new.tools) in
    let within : place < length (children_of run.target.element) = omega (
      arith,
      c.loop-place-test.true,
      c.count-place-end.ensures,
      length-map
          (children_in run.target.element.node) (at run.target.element.file),
    ) in
    sym c.loop-place.invariant.plays
    ∙ one_child p run c.args.context.now.choice.now place (suc place) now after
    c.in_ok-child.field-0 refl
    within c.in_ok-child.ensures.plays
    ∙ child_waits_here p run c.args.context.now.choice.now place c.in_ok-child.field-0
    c.in-Waits.task after
    c.in-Waits.is c.in_ok-child.ensures.child

pub loop-place-preserved : goal.loop-place-preserved
loop-place-preserved g c =
    let run = seen_run c.args.context.now.run in
    let p = player c.args.context.now.run.id.now g.T.CountedTools.answer in
    let place = c.loop-place.place in
    let now : Moment = moment c.loop-place.self c.loop-place.journal
    (g.T.CountedTools.calls c.loop-place.tools) in
    let after : Moment = moment c.child.new.self c.child.new.journal
    (g.T.CountedTools.calls c.child.new.tools) in
    let within : place < length (children_of run.target.element) = omega (
      arith,
      c.loop-place-test.true,
      c.count-place-end.ensures,
      length-map
          (children_in run.target.element.node) (at run.target.element.file),
    ) in
    record {
      plays =
          sym
          (one_child p run c.args.context.now.choice.now place (place + 1) now after
          c.in_ok-child.field-0
          (add-one place) within c.in_ok-child.ensures.plays
          ∙ ap
          (λ (step : Step AtTask). reached_then p (reached_by (child_frames run) step after)
          (λ end.
          unless_stopped end
          (each_in_turn (child run c.args.context.now.choice.now)
          (drop (place + 1) (children_of run.target.element)))))
          (c.in-Over-Fine.is ∙ ap (λ (ending : Ending). Over ending) c.in-Over-Fine.field-0-is))
          ∙ c.loop-place.invariant.plays;
      begun = begins_on _ _ _ c.loop-place.invariant.begun c.in_ok-child.ensures.begun;
    }

pub returns-clause-plays : goal.returns-clause-plays
returns-clause-plays g c =
    let run = seen_run c.args.context.now.run in
    let elements = children_of run.target.element in
    let past : length elements ≤ c.loop-place.place = omega (
      arith,
      c.loop-place-test.false,
      c.count-place-end.ensures,
      length-map
          (children_in run.target.element.node) (at run.target.element.file),
    ) in
    sym c.loop-place.invariant.plays
    ∙ none_left (player c.args.context.now.run.id.now g.T.CountedTools.answer)
    (child run c.args.context.now.choice.now) (drop c.loop-place.place elements)
    (moment c.loop-place.self c.loop-place.journal (g.T.CountedTools.calls c.loop-place.tools))
    (drop_all c.loop-place.place elements past)
