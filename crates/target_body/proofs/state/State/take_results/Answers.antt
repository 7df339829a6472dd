use Rattle.build_world.specs.Elements.{seen_element}
use Rattle.task_msbuild.specs.Gathered.{gathered}
use Rattle.target_body.specs.Moments.{moment, player}
use Rattle.target_body.specs.Seen.{seen_run}
use Rattle.target_body.proofs.Giving.{gathered_so, none_taken, takes_none}
use Rattle.target_body.proofs.state.State.take_results.Goals as goal

pub returns-then-takes_outputs : goal.returns-then-takes_outputs
returns-then-takes_outputs c = λ answer tools.
    gathered_so (seen_run c.args.call.now.context) (seen_element c.args.call.now.element)
    c.args.call.now.gives c.args.call.now.bucket.now c.args.on_error
    (player c.args.call.now.context.id.now answer)
    (gathered c.args.plan.now c.args.results.now) c.in_ok-output.output
    (moment c.args.self.now c.args.journal.now tools)
    (moment c.give.new.self c.give.new.journal tools) c.give.result c.in_ok-output.ensures
    (c.give.ensures answer tools)

pub returns : goal.returns
returns c = λ answer tools.
    none_taken (seen_run c.args.call.now.context) (seen_element c.args.call.now.element)
    c.args.call.now.gives c.args.call.now.bucket.now c.args.on_error
    (player c.args.call.now.context.id.now answer) c.args.plan.now c.args.results.now
    c.in_ok-output-2.output (moment c.args.self.now c.args.journal.now tools)
    (moment c.give-2.new.self c.give-2.new.journal tools) c.give-2.result
    (takes_none c.args.call.now.gives (seen_element c.args.call.now.element) c.takes_outputs.result
    c.takes_outputs.ensures c.if-takes_outputs.false)
    c.in_ok-output-2.ensures
    (c.give-2.ensures answer tools)
