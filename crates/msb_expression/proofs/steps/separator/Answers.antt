use Rattle.std.proofs.Common.{sym, ◌∙◌, refl}
use Rattle.std.specs.Prelude.{None}
use Rattle.std.proofs.lemmas.Result.{err_from_is_err_and}
use Rattle.msb_expression.specs.declared.sorts.Sort.TheVariants.{Close, Comma}
use Rattle.msb_expression.specs.Machine.{
  in_separator,
  stepping,
  separator_wanted,
  separator_ended,
  closed,
}
use Rattle.msb_expression.proofs.NamePlaces.{Refuses-same}
use Rattle.msb_expression.proofs.Places.{run-at}
use Rattle.msb_expression.proofs.RefPlaces.{close_cut}
use Rattle.msb_expression.proofs.StepPlaces.{
  leads_err,
  wants_separator,
  wants_close,
  stepping_stops,
}
use Rattle.msb_expression.proofs.steps.separator.Goals as goal

pub returns-in_err-start-in-Comma-clause-leads : goal.returns-in_err-start-in-Comma-clause-leads
returns-in_err-start-in-Comma-clause-leads c = λ heads k.
    let p = err_from_is_err_and c.from_residual.result c.from_residual.ensures.1 in
    leads_err c.args.text.now _ p.0 _ _ _ _ p.1 p.2
    (run-at c.args.text.now c.args.at (stepping heads) (separator_wanted heads) Comma
    (sym c.in-Comma.ensures) (λ k. cc) refl)
    (c.in_err-start-in-Comma.ensures.goes (separator_wanted heads) _ (wants_separator heads))

pub returns-in_err-separator-in-Comma-clause-leads :
    goal.returns-in_err-separator-in-Comma-clause-leads
returns-in_err-separator-in-Comma-clause-leads c = λ heads k.
    let p = err_from_is_err_and c.from_residual-in_err-separator-in-Comma.result
    c.from_residual-in_err-separator-in-Comma.ensures.1 in
    leads_err c.args.text.now _ p.0 _ _ _ _ p.1 p.2
    (run-at c.args.text.now c.args.at (stepping heads) (separator_wanted heads) Comma
    (sym c.in-Comma.ensures) (λ k. cc) refl
    ∙ c.in_ok-start-in-Comma.ensures.goes (separator_wanted heads) _ (wants_separator heads))
    (c.in_err-separator-in-Comma.ensures.leads (in_separator heads) refl)

pub returns-in_err-close_end-in-Comma-clause-leads :
    goal.returns-in_err-close_end-in-Comma-clause-leads
returns-in_err-close_end-in-Comma-clause-leads c = λ heads k.
    let p = err_from_is_err_and c.from_residual-in_err-close_end-in-Comma.result
    c.from_residual-in_err-close_end-in-Comma.ensures.1 in
    leads_err c.args.text.now _ p.0 _ _ _ _ p.1 p.2
    (run-at c.args.text.now c.args.at (stepping heads) (separator_wanted heads) Comma
    (sym c.in-Comma.ensures) (λ k. cc) refl
    ∙ c.in_ok-start-in-Comma.ensures.goes (separator_wanted heads) _ (wants_separator heads)
    ∙ c.in_ok-separator-in-Comma.ensures.leads (in_separator heads) refl)
    (c.in_err-close_end-in-Comma.ensures.goes
    (separator_ended heads c.in_ok-separator-in-Comma.separator) _
    (wants_close heads c.in_ok-separator-in-Comma.separator))

pub returns-in-Close-clause-leads : goal.returns-in-Close-clause-leads
returns-in-Close-clause-leads c = λ heads k.
    run-at c.args.text.now c.args.at (stepping heads) (closed heads None) Close
    (sym c.in-Close.ensures) (λ k. cc) refl

pub returns-in-Close-clause-cut : goal.returns-in-Close-clause-cut
returns-in-Close-clause-cut c = close_cut c.args.text.now _ c.utf8.text (sym c.in-Close.ensures)

pub returns-in_ok-close_end-in-Comma-clause-leads :
    goal.returns-in_ok-close_end-in-Comma-clause-leads
returns-in_ok-close_end-in-Comma-clause-leads c = λ heads k.
    run-at c.args.text.now c.args.at (stepping heads) (separator_wanted heads) Comma
    (sym c.in-Comma.ensures) (λ k. cc) refl
    ∙ c.in_ok-start-in-Comma.ensures.goes (separator_wanted heads) _ (wants_separator heads)
    ∙ c.in_ok-separator-in-Comma.ensures.leads (in_separator heads) refl
    ∙ c.in_ok-close_end-in-Comma.ensures.goes
    (separator_ended heads c.in_ok-separator-in-Comma.separator) _
    (wants_close heads c.in_ok-separator-in-Comma.separator)

pub returns-in_default : goal.returns-in_default
returns-in_default c = record {
  leads = λ heads k.
      Refuses-same c.args.text.now _ _ _
      (stepping_stops heads c.args.kind _ k c.requires.no_space c.requires.no_dash
      (λ e. c.in_default.not-Comma (c.sort_at.ensures ∙ e))
      (λ e. c.in_default.not-Close (c.sort_at.ensures ∙ e)))
      c.refusal.ensures;
  after = tt;
  within = tt;
  cut = tt;
}
