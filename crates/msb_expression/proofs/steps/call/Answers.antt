use Rattle.std.proofs.Common.{sym, ◌∙◌, refl}
use Rattle.std.proofs.lemmas.Result.{err_from_is_err_and}
use Rattle.msb_expression.specs.declared.sorts.Sort.TheVariants.{Open}
use Rattle.msb_expression.specs.Machine.{function_ended, args_opened}
use Rattle.msb_expression.proofs.NamePlaces.{Refuses-same}
use Rattle.msb_expression.proofs.Places.{run-at}
use Rattle.msb_expression.proofs.StepPlaces.{leads_err, function_at, function_ended_stops}
use Rattle.msb_expression.proofs.steps.call.Goals as goal

pub returns-in_err-args-in-Open-clause-leads : goal.returns-in_err-args-in-Open-clause-leads
returns-in_err-args-in-Open-clause-leads c = λ heads.
    let p = err_from_is_err_and c.from_residual-in_err-args-in-Open.result
    c.from_residual-in_err-args-in-Open.ensures.1 in
    let f = c.in_ok-function.function in
    leads_err c.args.text.now _ p.0 _ _ _ _ p.1 p.2
    (function_at heads c.args.text.now _ _ _ _ c.in_ok-function.ensures.name
    c.in_ok-function.ensures.over (c.spaces_end-end.ensures.over (function_ended heads f) refl)
    ∙ run-at c.args.text.now c.spaces_end-end.result (function_ended heads f) (args_opened heads f)
    Open (sym c.in-Open.ensures) (λ k. cc) refl)
    (c.in_err-args-in-Open.ensures.leads heads f)

pub returns-in_ok-args-in-Open-clause-leads : goal.returns-in_ok-args-in-Open-clause-leads
returns-in_ok-args-in-Open-clause-leads c = λ heads.
    let f = c.in_ok-function.function in
    function_at heads c.args.text.now _ _ _ _ c.in_ok-function.ensures.name
    c.in_ok-function.ensures.over (c.spaces_end-end.ensures.over (function_ended heads f) refl)
    ∙ run-at c.args.text.now c.spaces_end-end.result (function_ended heads f) (args_opened heads f)
    Open (sym c.in-Open.ensures) (λ k. cc) refl
    ∙ c.in_ok-args-in-Open.ensures.leads heads f

pub returns-in_default : goal.returns-in_default
returns-in_default c = record {
  leads = λ heads.
      Refuses-same c.args.text.now _ _ _
      (function_at heads c.args.text.now _ _ _ _ c.in_ok-function.ensures.name
      c.in_ok-function.ensures.over
      (c.spaces_end-end.ensures.over (function_ended heads c.in_ok-function.function) refl)
      ∙ function_ended_stops heads c.in_ok-function.function _ c.spaces_end-end.ensures.no_space
      (λ e. c.in_default.not-Open (c.sort_at.ensures ∙ e)))
      c.refusal.ensures;
  after = tt;
  within = tt;
}
