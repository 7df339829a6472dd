use Rattle.std.proofs.Common.{◌∙◌, ap}
use Rattle.msb_values.specs.declared.scope.Scope.{Scope}
use Rattle.target_body.specs.Moments.{moment}
use Rattle.target_body.specs.Seen.{seen_chooser, seen_run}
use Rattle.target_body.specs.States.{begun}
use Rattle.target_body.proofs.Telling.{all_begun}
use Rattle.target_body.proofs.body.begin.Goals as goal

pub returns-clause-goes : goal.returns-clause-goes
returns-clause-goes g c =
    all_begun g.T.CountedTools.answer c.args.context.now.id.now (seen_chooser c.args.context.now)
    (seen_run c.args.context.now) c.args.journal.now (g.T.CountedTools.calls c.args.tools.now)
    (moment c.begin.new.self c.begin.new.journal (g.T.CountedTools.calls c.begin.new.tools))
    c.in_ok-step.step
    c.args.scope c.new-state.result c.tell.result
    (c.new-state.ensures.state c.args.journal.now
    ∙ ap (λ (scope : Scope). begun scope c.args.journal.now) c.in_ok-copy.ensures)
    c.new-state.ensures.segments
    c.in_ok-step.ensures.plays c.tell.ensures
