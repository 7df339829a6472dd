use Rattle.std.proofs.Common.{subst}
use Rattle.build_world.specs.Elements.{seen_element}
use Rattle.target_body.specs.Left.{IsOfTask}
use Rattle.target_body.specs.Moments.{moment, player}
use Rattle.target_body.specs.Seen.{seen_run}
use Rattle.target_body.specs.declared.frames.AtTask.{AtTask}
use Rattle.target_body.specs.declared.steps.Step.{Step}
use Rattle.target_body.proofs.TaskSteps.{child_over, child_waits}
use Rattle.target_body.proofs.state.State.after_calls.Goals as goal

pub returns-in_ok-settle_after-in-Over-clause-goes :
    goal.returns-in_ok-settle_after-in-Over-clause-goes
returns-in_ok-settle_after-in-Over-clause-goes c = λ answer tools.
    child_over (player c.args.at.now.context.id.now answer) (seen_run c.args.at.now.context)
    (seen_element c.args.at.now.element) c.args.at.now.gives c.args.step
    c.args.self.now c.infer_unless.new.self c.settle_after.new.self c.args.journal.now tools
    c.in-Over.ending c.in_ok-ending-in-Over.ending c.in_ok-settle_after-in-Over.field-0
    c.in-Over.is c.in_ok-ending-in-Over.ensures.ended c.in_ok-ending-in-Over.ensures.kept
    (c.in_ok-settle_after-in-Over.ensures.ended c.args.journal.now)
    c.in_ok-settle_after-in-Over.ensures.kept

pub returns-in-Waits-clause-goes : goal.returns-in-Waits-clause-goes
returns-in-Waits-clause-goes c = λ answer tools.
    child_waits (player c.args.at.now.context.id.now answer) (seen_run c.args.at.now.context)
    (seen_element c.args.at.now.element) c.args.at.now.child c.args.at.now.gives c.args.step
    c.in-Waits.task
    (moment c.args.self.now c.args.journal.now tools) c.in-Waits.is c.requires.task
    c.requires.element

pub returns-in-Waits-clause-child : goal.returns-in-Waits-clause-child
returns-in-Waits-clause-child c =
    (subst (λ (s : Step AtTask). IsOfTask c.args.at.now.child c.args.at.now.gives s) c.in-Waits.is
    c.requires.task).0
