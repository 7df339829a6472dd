use Rattle.std.proofs.Common.{length, take, ap, ◌∙◌}
use Rattle.std.proofs.lemmas.List.{length-take-le}
use Rattle.target_order.specs.Steps.{noted}
use Rattle.target_order.proofs.Marks.{noted_top}
use Rattle.target_order.proofs.steps.mark.Goals as goal

pub returns : goal.returns
returns c =
    let visits = c.args.visits.now in
    let depth = c.args.depth in
    c.note.ensures
    ∙ (ap (λ vs. noted vs (length vs) c.args.step c.args.passed) c.in_ok-marked.ensures
    ∙ (ap (λ n. noted (take depth visits) n c.args.step c.args.passed)
    (length-take-le depth visits c.requires)
    ∙ noted_top visits depth c.args.step c.args.passed c.requires))
