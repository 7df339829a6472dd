use Rattle.std.proofs.Common.{sym, ◌∙◌, refl}
use Rattle.msb_expression.specs.declared.sorts.Sort.TheVariants.{Greater}
use Rattle.msb_expression.specs.Machine.{dashed, arrow}
use Rattle.msb_expression.proofs.NamePlaces.{Refuses-same}
use Rattle.msb_expression.proofs.Places.{run-at}
use Rattle.msb_expression.proofs.StepPlaces.{leads_same, dashed_stops}
use Rattle.msb_expression.proofs.steps.step.Goals as goal

pub returns-in-Greater-clause-leads : goal.returns-in-Greater-clause-leads
returns-in-Greater-clause-leads c = λ heads.
    leads_same c.args.text.now _ _ _ _
    (run-at c.args.text.now c.args.at (dashed heads) (arrow heads) Greater
    (sym c.in-Greater.ensures) (λ k. cc) refl) (c.act.ensures.leads heads)

pub returns-in_default : goal.returns-in_default
returns-in_default c = record {
  leads = λ heads. Refuses-same c.args.text.now _ _ _
      (dashed_stops heads _ (λ e. c.in_default.not-Greater (c.sort_at.ensures ∙ e)))
      c.refusal.ensures;
  after = tt;
  within = tt;
}
