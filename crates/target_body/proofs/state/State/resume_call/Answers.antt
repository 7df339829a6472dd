use Rattle.std.proofs.Common.{◌∙◌, ◌++◌, ap, refl}
use Rattle.build_world.specs.Elements.{seen_element}
use Rattle.target_body.specs.Moments.{moment, player}
use Rattle.target_body.specs.Seen.{seen_run}
use Rattle.target_body.proofs.Giving.{all_resumed, resumed_over}
use Rattle.target_body.proofs.state.State.resume_call.Goals as goal

pub returns-then-ends_with : goal.returns-then-ends_with
returns-then-ends_with c = λ answer tools.
    resumed_over (seen_run c.args.call.now.context) (seen_element c.args.call.now.element)
    c.args.call.now.gives c.args.call.now.bucket.now
    (player c.args.call.now.context.id.now answer) c.args.at c.args.results.now
    (moment c.args.self.now c.args.journal.now tools)
    (moment c.take_results.new.self c.take_results.new.journal tools) c.in_ok-ending.ending
    c.ends_with.result c.requires.waits c.requires.fits c.ends_with.ensures c.if-ends_with.true
    (c.in_ok-ending.ensures answer tools)

pub returns : goal.returns
returns c = λ answer tools.
    all_resumed (seen_run c.args.call.now.context) (seen_element c.args.call.now.element)
    c.args.call.now.gives c.args.call.now.bucket.now c.args.at.on_error
    (player c.args.call.now.context.id.now answer) c.args.at c.append.new.self
    c.args.results.now
    (moment c.args.self.now c.args.journal.now tools)
    (moment c.make_calls.new.self c.make_calls.new.journal tools) c.make_calls.result
    refl c.requires.waits c.requires.fits
    (c.in_ok-append.ensures.ok ∙ ap (λ more. c.args.at.results ++ more) c.in_ok-copy.ensures)
    (c.make_calls.ensures answer tools)
