use Rattle.std.proofs.Common.{ap}
use Rattle.build_world.specs.Elements.{seen_element}
use Rattle.target_body.specs.Moments.{moment, player}
use Rattle.target_body.specs.Seen.{child_at, seen_run}
use Rattle.target_body.specs.declared.run_context.RunContext.{RunContext}
use Rattle.target_body.proofs.TaskSteps.{is_inferred, is_passed, runs_in_part, runs_so}
use Rattle.target_body.proofs.state.State.task.Goals as goal

pub returns-in-Run-clause-plays : goal.returns-in-Run-clause-plays
returns-in-Run-clause-plays g c =
    runs_so g.T.CountedTools.answer c.args.context.now.run c.args.child
    (moment c.args.self.now c.args.journal.now (g.T.CountedTools.calls c.args.tools.now))
    (moment c.call_in_buckets.new.self c.call_in_buckets.new.journal
    (g.T.CountedTools.calls c.call_in_buckets.new.tools))
    c.call_in_buckets.result
    c.of.result.context (seen_element c.of.result.element) c.of.result.gives
    c.args.context.now.choice.now
    c.of.ensures.context c.of.ensures.element c.of.ensures.gives c.in-Run.is
    c.call_in_buckets.ensures.plays

pub returns-in-Part-clause-plays : goal.returns-in-Part-clause-plays
returns-in-Part-clause-plays g c =
    runs_in_part g.T.CountedTools.answer c.args.context.now.run c.args.child
    (moment c.args.self.now c.args.journal.now (g.T.CountedTools.calls c.args.tools.now))
    (moment c.call_in_buckets-in-Part.new.self c.call_in_buckets-in-Part.new.journal
    (g.T.CountedTools.calls c.call_in_buckets-in-Part.new.tools)) c.call_in_buckets-in-Part.result
    c.of-in-Part.result.context (seen_element c.of-in-Part.result.element) c.of-in-Part.result.gives
    c.args.context.now.choice.now c.in-Part.field-0 c.of-in-Part.ensures.context
    c.of-in-Part.ensures.element c.of-in-Part.ensures.gives c.in-Part.is
    c.call_in_buckets-in-Part.ensures.plays

pub returns-in_ok-settle_after-in-Skip-clause-plays :
    goal.returns-in_ok-settle_after-in-Skip-clause-plays
returns-in_ok-settle_after-in-Skip-clause-plays g c =
    let run = seen_run c.args.context.now.run in
    is_inferred (player c.args.context.now.run.id.now g.T.CountedTools.answer) run
    (child_at run c.args.child) c.args.self.now c.settle_after.new.self c.args.journal.now
    (g.T.CountedTools.calls c.args.tools.now)
    c.in_ok-settle_after-in-Skip.field-0 (seen_run c.of-in-Skip.result.context)
    (seen_element c.of-in-Skip.result.element) c.args.context.now.choice.now c.infer.new.self
    c.in_ok-ending-in-Skip.ending
    (ap (λ (w : RunContext). seen_run w) c.of-in-Skip.ensures.context) c.of-in-Skip.ensures.element
    c.in-Skip.is c.in_ok-ending-in-Skip.ensures.ended c.in_ok-ending-in-Skip.ensures.kept
    (c.in_ok-settle_after-in-Skip.ensures.ended c.args.journal.now)
    c.in_ok-settle_after-in-Skip.ensures.kept

pub returns-in_ok-settle_after-in-Nothing-clause-plays :
    goal.returns-in_ok-settle_after-in-Nothing-clause-plays
returns-in_ok-settle_after-in-Nothing-clause-plays g c =
    let run = seen_run c.args.context.now.run in
    is_passed (player c.args.context.now.run.id.now g.T.CountedTools.answer) run
    (child_at run c.args.child) c.args.self.now c.settle_after-in-Nothing.new.self
    c.args.journal.now (g.T.CountedTools.calls c.args.tools.now)
    c.in_ok-settle_after-in-Nothing.field-0 c.args.context.now.choice.now c.in-Nothing.is
    (c.in_ok-settle_after-in-Nothing.ensures.ended c.args.journal.now)
    c.in_ok-settle_after-in-Nothing.ensures.kept
