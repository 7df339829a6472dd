use Rattle.std.proofs.Common.{◌∙◌, ap, sym}
use Rattle.target_body.specs.Left.{bucket_frames}
use Rattle.target_body.specs.Moments.{Moment, moment, player, reached_by}
use Rattle.target_body.specs.Pieces.{bucket_by}
use Rattle.target_body.specs.Played.{reached_then}
use Rattle.target_body.specs.Seen.{seen_chooser, seen_run}
use Rattle.target_body.specs.Work.{each_in_turn, unless_stopped}
use Rattle.target_body.specs.declared.frames.AtBucket.{AtBucket}
use Rattle.target_body.specs.declared.steps.Ending.{Ending}
use Rattle.target_body.specs.declared.steps.Step.{Step}
use Rattle.target_body.specs.declared.steps.Step.TheVariants.{Over}
use Rattle.target_body.proofs.Stepping.{begins_on, in_turn, none_left}
use Rattle.target_body.proofs.state.State.buckets.Goals as goal

pub returns-in-Over-Faulted-clause-plays : goal.returns-in-Over-Faulted-clause-plays
returns-in-Over-Faulted-clause-plays g c =
    let run = seen_run c.args.context.now in
    let choose = seen_chooser c.args.context.now in
    let p = player c.args.context.now.id.now g.T.CountedTools.answer in
    let frames = bucket_frames run in
    let part = bucket_by choose run c.args.found in
    let now : Moment = moment c.loop-bucket.self c.loop-bucket.journal
    (g.T.CountedTools.calls c.loop-bucket.tools) in
    let after : Moment = moment c.bucket.new.self c.bucket.new.journal
    (g.T.CountedTools.calls c.bucket.new.tools) in
    sym c.loop-bucket.invariant.plays
    ∙ in_turn frames p part c.in-Some.bucket c.next.new.self c.loop-bucket.later now after
    c.in_ok-bucket.field-0 c.in-Some.ensures c.in_ok-bucket.ensures.plays
    ∙ ap
    (λ (step : Step AtBucket). reached_then p (reached_by frames step after)
    (λ end. unless_stopped end (each_in_turn part c.next.new.self)))
    (c.in-Over-Faulted.is ∙ ap (λ (ending : Ending). Over ending) c.in-Over-Faulted.field-0-is)

pub returns-in-Over-Failed-clause-plays : goal.returns-in-Over-Failed-clause-plays
returns-in-Over-Failed-clause-plays g c =
    let run = seen_run c.args.context.now in
    let choose = seen_chooser c.args.context.now in
    let p = player c.args.context.now.id.now g.T.CountedTools.answer in
    let frames = bucket_frames run in
    let part = bucket_by choose run c.args.found in
    let now : Moment = moment c.loop-bucket.self c.loop-bucket.journal
    (g.T.CountedTools.calls c.loop-bucket.tools) in
    let after : Moment = moment c.bucket.new.self c.bucket.new.journal
    (g.T.CountedTools.calls c.bucket.new.tools) in
    sym c.loop-bucket.invariant.plays
    ∙ in_turn frames p part c.in-Some.bucket c.next.new.self c.loop-bucket.later now after
    c.in_ok-bucket.field-0 c.in-Some.ensures c.in_ok-bucket.ensures.plays
    ∙ ap
    (λ (step : Step AtBucket). reached_then p (reached_by frames step after)
    (λ end. unless_stopped end (each_in_turn part c.next.new.self)))
    (c.in-Over-Failed.is ∙ ap (λ (ending : Ending). Over ending) c.in-Over-Failed.field-0-is)

pub returns-in-Waits-clause-plays : goal.returns-in-Waits-clause-plays
returns-in-Waits-clause-plays g c =
    let run = seen_run c.args.context.now in
    let choose = seen_chooser c.args.context.now in
    let p = player c.args.context.now.id.now g.T.CountedTools.answer in
    let frames = bucket_frames run in
    let part = bucket_by choose run c.args.found in
    let now : Moment = moment c.loop-bucket.self c.loop-bucket.journal
    (g.T.CountedTools.calls c.loop-bucket.tools) in
    let after : Moment = moment c.bucket.new.self c.bucket.new.journal
    (g.T.CountedTools.calls c.bucket.new.tools) in
    sym c.loop-bucket.invariant.plays
    ∙ in_turn frames p part c.in-Some.bucket c.next.new.self c.loop-bucket.later now after
    c.in_ok-bucket.field-0 c.in-Some.ensures c.in_ok-bucket.ensures.plays
    ∙ ap
    (λ (step : Step AtBucket). reached_then p (reached_by frames step after)
    (λ end. unless_stopped end (each_in_turn part c.next.new.self))) c.in-Waits.is

pub loop-bucket-preserved : goal.loop-bucket-preserved
loop-bucket-preserved g c =
    let run = seen_run c.args.context.now in
    let choose = seen_chooser c.args.context.now in
    let p = player c.args.context.now.id.now g.T.CountedTools.answer in
    let frames = bucket_frames run in
    let part = bucket_by choose run c.args.found in
    let now : Moment = moment c.loop-bucket.self c.loop-bucket.journal
    (g.T.CountedTools.calls c.loop-bucket.tools) in
    let after : Moment = moment c.bucket.new.self c.bucket.new.journal
    (g.T.CountedTools.calls c.bucket.new.tools) in
    record {
      plays =
          sym
          (in_turn frames p part c.in-Some.bucket c.next.new.self c.loop-bucket.later now after
          c.in_ok-bucket.field-0 c.in-Some.ensures c.in_ok-bucket.ensures.plays
          ∙ ap
          (λ (step : Step AtBucket). reached_then p (reached_by frames step after)
          (λ end. unless_stopped end (each_in_turn part c.next.new.self)))
          (c.in-Over-Fine.is ∙ ap (λ (ending : Ending). Over ending) c.in-Over-Fine.field-0-is))
          ∙ c.loop-bucket.invariant.plays;
      begun = begins_on _ _ _ c.loop-bucket.invariant.begun c.in_ok-bucket.ensures.begun;
    }

pub returns-clause-plays : goal.returns-clause-plays
returns-clause-plays g c =
    sym c.loop-bucket.invariant.plays
    ∙ none_left (player c.args.context.now.id.now g.T.CountedTools.answer)
    (bucket_by (seen_chooser c.args.context.now) (seen_run c.args.context.now) c.args.found)
    c.loop-bucket.later
    (moment c.loop-bucket.self c.loop-bucket.journal (g.T.CountedTools.calls c.loop-bucket.tools))
    c.in_default.ensures
