use Rattle.std.proofs.Common.{◌∙◌, ◌==◌, length, sym, ap}
use Rattle.build_world.specs.Elements.{seen_element}
use Rattle.task_msbuild.specs.Gathered.{gathered}
use Rattle.task_msbuild.specs.Plans.{next_calls}
use Rattle.target_body.specs.Moments.{moment, player}
use Rattle.target_body.specs.Seen.{seen_done, seen_run, seen_state}
use Rattle.target_body.specs.Tasks.{answered_to}
use Rattle.target_body.specs.Work.{done}
use Rattle.target_body.proofs.Giving.{empty_of, made_over, not_empty}
use Rattle.target_body.proofs.PlannedCalls.{calls_wait}
use Rattle.target_body.proofs.state.State.make_calls.Goals as goal

pub returns-then-is_empty : goal.returns-then-is_empty
returns-then-is_empty c = λ answer tools.
    let run = seen_run c.args.call.now.context in
    let e = seen_element c.args.call.now.element in
    let bucket = c.args.call.now.bucket.now in
    let at = c.args.at in
    made_over run e c.args.call.now.gives bucket at.on_error
    (player c.args.call.now.context.id.now answer) at.plan at.results
    (moment c.args.self.now c.args.journal.now tools)
    (moment c.take_results.new.self c.take_results.new.journal tools) c.in_ok-ending.ending
    (empty_of (length (next_calls at.plan at.results))
    (ap (λ l. length l == 0) (sym c.next.ensures) ∙ sym c.is_empty.ensures
    ∙ c.if-is_empty.true))
    (c.in_ok-ending.ensures answer tools)

pub returns : goal.returns
returns c = λ answer tools.
    let run = seen_run c.args.call.now.context in
    let e = seen_element c.args.call.now.element in
    let bucket = c.args.call.now.bucket.now in
    let at = c.args.at in
    calls_wait (player c.args.call.now.context.id.now answer)
    (λ x.
    done
    (answered_to run e c.args.call.now.gives bucket at.on_error (x.0, gathered at.plan x.1)))
    (seen_done c.args.self.now c.args.journal.now tools) at
    (seen_state c.args.self.now c.args.journal.now)
    (not_empty (length (next_calls at.plan at.results))
    (ap (λ l. length l == 0) (sym c.next.ensures) ∙ sym c.is_empty.ensures
    ∙ c.if-is_empty.false))
