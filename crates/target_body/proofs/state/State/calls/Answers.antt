use Rattle.std.proofs.Common.{◌∙◌, ap, sym}
use Rattle.build_world.specs.Elements.{At, seen_element}
use Rattle.target_body.specs.Left.{call_frames, call_left, waiting}
use Rattle.target_body.specs.Moments.{Moment, done_at, moment, player, reached_by, state_at}
use Rattle.target_body.specs.Played.{reached_then, waits}
use Rattle.target_body.specs.Seen.{seen_run}
use Rattle.target_body.specs.Tasks.{call}
use Rattle.target_body.specs.Work.{and_then, each_in_turn, unless_stopped}
use Rattle.target_body.specs.declared.frames.AtCall.{AtCall}
use Rattle.target_body.specs.declared.steps.Ending.{Ending}
use Rattle.target_body.specs.declared.steps.Step.{Step}
use Rattle.target_body.specs.declared.steps.Step.TheVariants.{Over}
use Rattle.target_body.proofs.Stepping.{begins_on, in_turn, none_left}
use Rattle.target_body.proofs.state.State.calls.Goals as goal

pub returns-in-Over-Faulted-clause-plays : goal.returns-in-Over-Faulted-clause-plays
returns-in-Over-Faulted-clause-plays g c =
    let run = seen_run c.args.at.now.context in
    let e = seen_element c.args.at.now.element in
    let p = player c.args.at.now.context.id.now g.T.CountedTools.answer in
    let frames = call_frames run e c.args.at.now.gives c.in-Some.bucket in
    let part = call run e c.args.at.now.gives in
    let now : Moment = moment c.loop-bucket.self c.loop-bucket.journal
    (g.T.CountedTools.calls c.loop-bucket.tools) in
    let after : Moment = moment c.call.new.self c.call.new.journal
    (g.T.CountedTools.calls c.call.new.tools) in
    sym c.loop-bucket.invariant.plays
    ∙ in_turn frames p part c.in-Some.bucket c.next.new.self c.loop-bucket.later now after
    c.in_ok-call.field-0 c.in-Some.ensures c.in_ok-call.ensures.plays
    ∙ ap
    (λ (step : Step AtCall). reached_then p (reached_by frames step after)
    (λ end. unless_stopped end (each_in_turn part c.next.new.self)))
    (c.in-Over-Faulted.is ∙ ap (λ (ending : Ending). Over ending) c.in-Over-Faulted.field-0-is)

pub returns-in-Over-Failed-clause-plays : goal.returns-in-Over-Failed-clause-plays
returns-in-Over-Failed-clause-plays g c =
    let run = seen_run c.args.at.now.context in
    let e = seen_element c.args.at.now.element in
    let p = player c.args.at.now.context.id.now g.T.CountedTools.answer in
    let frames = call_frames run e c.args.at.now.gives c.in-Some.bucket in
    let part = call run e c.args.at.now.gives in
    let now : Moment = moment c.loop-bucket.self c.loop-bucket.journal
    (g.T.CountedTools.calls c.loop-bucket.tools) in
    let after : Moment = moment c.call.new.self c.call.new.journal
    (g.T.CountedTools.calls c.call.new.tools) in
    sym c.loop-bucket.invariant.plays
    ∙ in_turn frames p part c.in-Some.bucket c.next.new.self c.loop-bucket.later now after
    c.in_ok-call.field-0 c.in-Some.ensures c.in_ok-call.ensures.plays
    ∙ ap
    (λ (step : Step AtCall). reached_then p (reached_by frames step after)
    (λ end. unless_stopped end (each_in_turn part c.next.new.self)))
    (c.in-Over-Failed.is ∙ ap (λ (ending : Ending). Over ending) c.in-Over-Failed.field-0-is)

pub returns-in-Waits-clause-plays : goal.returns-in-Waits-clause-plays
returns-in-Waits-clause-plays g c =
    let run = seen_run c.args.at.now.context in
    let e = seen_element c.args.at.now.element in
    let p = player c.args.at.now.context.id.now g.T.CountedTools.answer in
    let frames = call_frames run e c.args.at.now.gives c.in-Some.bucket in
    let part = call run e c.args.at.now.gives in
    let now : Moment = moment c.loop-bucket.self c.loop-bucket.journal
    (g.T.CountedTools.calls c.loop-bucket.tools) in
    let after : Moment = moment c.call.new.self c.call.new.journal
    (g.T.CountedTools.calls c.call.new.tools) in
    sym c.loop-bucket.invariant.plays
    ∙ in_turn frames p part c.in-Some.bucket c.next.new.self c.loop-bucket.later now after
    c.in_ok-call.field-0 c.in-Some.ensures c.in_ok-call.ensures.plays
    ∙ ap
    (λ (step : Step AtCall). reached_then p (reached_by frames step after)
    (λ end. unless_stopped end (each_in_turn part c.next.new.self))) c.in-Waits.is
    ∙ ap (λ (e : At). waits (waiting c.in-Waits.call)
    (λ results journal.
    and_then
    (call_left run e c.args.at.now.gives c.in-Some.bucket c.in-Waits.call (state_at after)
    results journal) (λ s. each_in_turn (call run e c.args.at.now.gives) c.next.new.self s))
    (done_at after)) c.requires

pub loop-bucket-preserved : goal.loop-bucket-preserved
loop-bucket-preserved g c =
    let run = seen_run c.args.at.now.context in
    let e = seen_element c.args.at.now.element in
    let p = player c.args.at.now.context.id.now g.T.CountedTools.answer in
    let frames = call_frames run e c.args.at.now.gives c.in-Some.bucket in
    let part = call run e c.args.at.now.gives in
    let now : Moment = moment c.loop-bucket.self c.loop-bucket.journal
    (g.T.CountedTools.calls c.loop-bucket.tools) in
    let after : Moment = moment c.call.new.self c.call.new.journal
    (g.T.CountedTools.calls c.call.new.tools) in
    record {
      plays =
          sym
          (in_turn frames p part c.in-Some.bucket c.next.new.self c.loop-bucket.later now after
          c.in_ok-call.field-0 c.in-Some.ensures c.in_ok-call.ensures.plays
          ∙ ap
          (λ (step : Step AtCall). reached_then p (reached_by frames step after)
          (λ end. unless_stopped end (each_in_turn part c.next.new.self)))
          (c.in-Over-Fine.is ∙ ap (λ (ending : Ending). Over ending) c.in-Over-Fine.field-0-is))
          ∙ c.loop-bucket.invariant.plays;
      begun = begins_on _ _ _ c.loop-bucket.invariant.begun c.in_ok-call.ensures.begun;
    }

pub returns-clause-plays : goal.returns-clause-plays
returns-clause-plays g c =
    let run = seen_run c.args.at.now.context in
    let e = seen_element c.args.at.now.element in
    sym c.loop-bucket.invariant.plays
    ∙ none_left (player c.args.at.now.context.id.now g.T.CountedTools.answer)
    (call run e c.args.at.now.gives) c.loop-bucket.later
    (moment c.loop-bucket.self c.loop-bucket.journal (g.T.CountedTools.calls c.loop-bucket.tools))
    c.in_default.ensures
