use Rattle.std.proofs.Common.{◌∙◌, sym, refl}
use Rattle.msb_expression.specs.declared.sorts.Sort.TheVariants.{Close}
use Rattle.msb_expression.specs.Machine.{called, calls_closed, with_calls}
use Rattle.msb_expression.proofs.NamePlaces.{Refuses-same}
use Rattle.msb_expression.proofs.Places.{run-at}
use Rattle.msb_expression.proofs.RefPlaces.{close_cut}
use Rattle.msb_expression.proofs.CallPlaces.{called_stops}
use Rattle.msb_expression.proofs.calls.closed_calls.Goals as goal

pub returns-in-Close-clause-leads : goal.returns-in-Close-clause-leads
returns-in-Close-clause-leads c = λ heads m.
    c.in_ok-calls.ensures.leads heads m
    ∙ run-at c.args.text.now _ (called (with_calls heads c.in_ok-calls.calls))
    (calls_closed (with_calls heads c.in_ok-calls.calls)) Close
    (sym c.in-Close.ensures) (λ k. cc) refl

pub returns-in-Close-clause-cut : goal.returns-in-Close-clause-cut
returns-in-Close-clause-cut c = close_cut c.args.text.now _ c.utf8.text (sym c.in-Close.ensures)

pub returns-in_default : goal.returns-in_default
returns-in_default c = record {
  leads = λ heads m.
      Refuses-same c.args.text.now _ _ _
      (c.in_ok-calls.ensures.leads heads m
      ∙ called_stops (with_calls heads c.in_ok-calls.calls) _ c.in_ok-calls.ensures.no_space
      c.in_ok-calls.ensures.no_dot
      (λ e. c.in_default.not-Close (c.sort_at.ensures ∙ e)))
      c.refusal.ensures;
  after = tt;
  within = tt;
  cut = tt;
}
