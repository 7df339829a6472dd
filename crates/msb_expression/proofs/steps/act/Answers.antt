use Rattle.std.proofs.Common.{sym, ◌∙◌, refl, []}
use Rattle.std.proofs.lemmas.Result.{err_from_is_err_and}
use Rattle.msb_expression.specs.declared.sorts.Sort.TheVariants.{Quote}
use Rattle.msb_expression.specs.Machine.{in_transform, inner, unmarked, in_text, arrow}
use Rattle.msb_expression.proofs.NamePlaces.{Refuses-same}
use Rattle.msb_expression.proofs.Places.{run-at}
use Rattle.msb_expression.proofs.RefPlaces.{quote_cut}
use Rattle.msb_expression.proofs.StepPlaces.{leads_err, arrow_stops}
use Rattle.msb_expression.proofs.steps.act.Goals as goal

pub pieces-requires-clause-cut : goal.pieces-requires-clause-cut
pieces-requires-clause-cut c = quote_cut c.args.text.now _ c.utf8.text (sym c.in-Quote.ensures)

pub returns-in_err-pieces-in-Quote-clause-leads : goal.returns-in_err-pieces-in-Quote-clause-leads
returns-in_err-pieces-in-Quote-clause-leads c = λ heads.
    let p = err_from_is_err_and c.from_residual.result c.from_residual.ensures.1 in
    leads_err c.args.text.now _ p.0 _ _ _ _ p.1 p.2
    (c.spaces_end-start.ensures.over (arrow heads) refl
    ∙ run-at c.args.text.now c.spaces_end-start.result (arrow heads)
    (in_text (inner (in_transform heads) []) [] unmarked) Quote (sym c.in-Quote.ensures)
    (λ k. cc) refl)
    (c.in_err-pieces-in-Quote.ensures.leads (in_transform heads) refl)

pub returns-in_ok-pieces-in-Quote-clause-leads : goal.returns-in_ok-pieces-in-Quote-clause-leads
returns-in_ok-pieces-in-Quote-clause-leads c = λ heads.
    c.spaces_end-start.ensures.over (arrow heads) refl
    ∙ run-at c.args.text.now c.spaces_end-start.result (arrow heads)
    (in_text (inner (in_transform heads) []) [] unmarked) Quote (sym c.in-Quote.ensures)
    (λ k. cc) refl
    ∙ c.in_ok-pieces-in-Quote.ensures.leads (in_transform heads) refl

pub returns-in_default : goal.returns-in_default
returns-in_default c = record {
  leads = λ heads.
      Refuses-same c.args.text.now _ _ _
      (c.spaces_end-start.ensures.over (arrow heads) refl
      ∙ arrow_stops heads _ c.spaces_end-start.ensures.no_space
      (λ e. c.in_default.not-Quote (c.sort_at.ensures ∙ e))
      (λ e. c.in_default.not-Letter (c.sort_at.ensures ∙ e)))
      c.refusal.ensures;
  after = tt;
  within = tt;
}
