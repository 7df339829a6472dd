use Rattle.std.proofs.Common.{◌∙◌, ap, add-one}
use Rattle.target_body.specs.Moments.{moment, player}
use Rattle.target_body.specs.Seen.{seen_run}
use Rattle.target_body.specs.declared.steps.Ending.{Ending}
use Rattle.target_body.specs.declared.steps.Step.TheVariants.{Over}
use Rattle.target_body.proofs.ChildSteps.{child_waits_here, children_go_on}
use Rattle.target_body.proofs.state.State.after_child.Goals as goal

pub returns-in-Some-clause-goes : goal.returns-in-Some-clause-goes
returns-in-Some-clause-goes g c =
    children_go_on (player c.args.context.now.run.id.now g.T.CountedTools.answer)
    (seen_run c.args.context.now.run) c.args.context.now.choice.now c.args.place c.in-Some.next
    c.args.step
    (moment c.args.self.now c.args.journal.now (g.T.CountedTools.calls c.args.tools.now))
    (moment c.children.new.self c.children.new.journal
    (g.T.CountedTools.calls c.children.new.tools)) c.children.result
    (c.in-Over.is ∙ ap (λ (ending : Ending). Over ending) c.in-Fine.is)
    (c.in-Some.ensures.1 ∙ add-one c.args.place) c.children.ensures.plays

pub returns-in-Waits-clause-goes : goal.returns-in-Waits-clause-goes
returns-in-Waits-clause-goes g c =
    child_waits_here (player c.args.context.now.run.id.now g.T.CountedTools.answer)
    (seen_run c.args.context.now.run) c.args.context.now.choice.now c.args.place c.args.step
    c.in-Waits.task
    (moment c.args.self.now c.args.journal.now (g.T.CountedTools.calls c.args.tools.now))
    c.in-Waits.is c.requires
