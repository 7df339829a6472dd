use Rattle.std.proofs.Common.{◌∙◌, List, ℕ, ap}
use Rattle.msb_expand.specs.Reserved.{folder_of}
use Rattle.build_world.specs.Elements.{seen_element}
use Rattle.task_msbuild.specs.Plans.{plan_of}
use Rattle.target_body.specs.Moments.{moment, player}
use Rattle.target_body.specs.Seen.{seen_run}
use Rattle.target_body.proofs.Giving.{all_planned}
use Rattle.target_body.proofs.state.State.plan_calls.Goals as goal

pub returns : goal.returns
returns c = λ answer tools.
    let run = seen_run c.args.call.now.context in
    all_planned run (seen_element c.args.call.now.element) c.args.call.now.gives
    c.args.call.now.bucket.now c.args.on_error
    (player c.args.call.now.context.id.now answer) c.in_ok-plan.plan c.args.input.now.params
    c.new.result
    (moment c.args.self.now c.args.journal.now tools)
    (moment c.make_calls.new.self c.make_calls.new.journal tools) c.make_calls.result
    (c.in_ok-plan.ensures
    ∙ ap (λ (folder : List ℕ).
    plan_of run.files folder c.globals.result.now c.args.input.now.params) c.folder.ensures
    ∙ ap (λ (globals : List (List ℕ × List ℕ)). plan_of run.files (folder_of run.instance.path)
    globals c.args.input.now.params) c.globals.ensures)
    c.new.ensures (c.make_calls.ensures answer tools)
