use Rattle.std.proofs.Common.{sym, ◌∙◌}
use Rattle.msb_expression.specs.declared.sorts.Sort.TheVariants.{Close}
use Rattle.msb_expression.proofs.NamePlaces.{Refuses-same}
use Rattle.msb_expression.proofs.Places.{run-at}
use Rattle.msb_expression.proofs.RefPlaces.{close_cut}
use Rattle.msb_expression.proofs.StepPlaces.{wants_stops}
use Rattle.msb_expression.proofs.steps.close_end.Goals as goal

pub returns-in-Close-clause-goes : goal.returns-in-Close-clause-goes
returns-in-Close-clause-goes c = λ mode next w.
    c.spaces_end-end.ensures.over mode w.stays
    ∙ run-at c.args.text.now c.spaces_end-end.result mode next Close (sym c.in-Close.ensures)
    (λ k. cc) (w.opens _)

pub returns-in-Close-clause-cut : goal.returns-in-Close-clause-cut
returns-in-Close-clause-cut c = close_cut c.args.text.now _ c.utf8.text (sym c.in-Close.ensures)

pub returns-in_default : goal.returns-in_default
returns-in_default c = record {
  goes = λ mode next w.
      Refuses-same c.args.text.now _ _ _
      (c.spaces_end-end.ensures.over mode w.stays
      ∙ wants_stops Close mode next _ w c.spaces_end-end.ensures.no_space
      (λ e. c.in_default.not-Close (c.sort_at.ensures ∙ e)))
      c.refusal.ensures;
  after = tt;
  within = tt;
  cut = tt;
}
