use Rattle.std.proofs.Common.{sym, ◌∙◌}
use Rattle.msb_expression.specs.declared.sorts.Sort.TheVariants.{Quote}
use Rattle.msb_expression.proofs.NamePlaces.{Refuses-same}
use Rattle.msb_expression.proofs.Places.{run-at}
use Rattle.msb_expression.proofs.RefPlaces.{quote_cut}
use Rattle.msb_expression.proofs.StepPlaces.{wants_stops}
use Rattle.msb_expression.proofs.steps.quote_end.Goals as goal

pub returns-in-Quote-clause-goes : goal.returns-in-Quote-clause-goes
returns-in-Quote-clause-goes c = λ mode next w.
    c.spaces_end-end.ensures.over mode w.stays
    ∙ run-at c.args.text.now c.spaces_end-end.result mode next Quote (sym c.in-Quote.ensures)
    (λ k. cc) (w.opens _)

pub returns-in-Quote-clause-cut : goal.returns-in-Quote-clause-cut
returns-in-Quote-clause-cut c = quote_cut c.args.text.now _ c.utf8.text (sym c.in-Quote.ensures)

pub returns-in_default : goal.returns-in_default
returns-in_default c = record {
  goes = λ mode next w.
      Refuses-same c.args.text.now _ _ _
      (c.spaces_end-end.ensures.over mode w.stays
      ∙ wants_stops Quote mode next _ w c.spaces_end-end.ensures.no_space
      (λ e. c.in_default.not-Quote (c.sort_at.ensures ∙ e)))
      c.refusal.ensures;
  after = tt;
  within = tt;
  cut = tt;
}
