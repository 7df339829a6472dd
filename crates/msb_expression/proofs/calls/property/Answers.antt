use Rattle.std.proofs.Common.{◌∙◌}
use Rattle.msb_expression.proofs.Runs.{run-opened}
use Rattle.msb_expression.proofs.StepPlaces.{leads_same}
use Rattle.msb_expression.proofs.calls.property.Goals as goal

pub returns-in_default-clause-leads : goal.returns-in_default-clause-leads
returns-in_default-clause-leads c = λ parts.
    leads_same c.args.text.now _ _ _ _
    (run-opened parts _ (λ e. c.in_default.not-Bracket (c.sort_at.ensures ∙ e)))
    (c.named_property.ensures.leads parts)
