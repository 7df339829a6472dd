use Rattle.std.proofs.Common.{◌∙◌, sym, refl, false}
use Rattle.std.proofs.lemmas.Result.{err_from_is_err_and}
use Rattle.msb_expression.specs.declared.sorts.Sort.TheVariants.{Open}
use Rattle.msb_expression.specs.Machine.{
  call_wanted,
  call_named,
  call_ended,
  call_arg_wanted,
  arguments_of,
}
use Rattle.msb_expression.proofs.Places.{run-at}
use Rattle.msb_expression.proofs.RefPlaces.{open_cut}
use Rattle.msb_expression.proofs.StepPlaces.{leads_err}
use Rattle.msb_expression.proofs.CallPlaces.{takes_call, run-call_ended, plain_called}
use Rattle.msb_expression.proofs.calls.call.Goals as goal

pub args-requires-clause-cut : goal.args-requires-clause-cut
args-requires-clause-cut c = open_cut c.args.text.now _ c.utf8.text (sym c.in-Open.ensures)

pub returns-in_err-name-clause-leads : goal.returns-in_err-name-clause-leads
returns-in_err-name-clause-leads c = λ heads m.
    let p = err_from_is_err_and c.from_residual.result c.from_residual.ensures.1 in
    leads_err c.args.text.now _ p.0 _ _ _ _ p.1 p.2 refl
    (c.in_err-name.ensures.takes (call_wanted heads) (λ x. call_named heads x) (takes_call heads))

pub returns-in_err-args-in-Open-clause-leads : goal.returns-in_err-args-in-Open-clause-leads
returns-in_err-args-in-Open-clause-leads c = λ heads m.
    let p =
    err_from_is_err_and c.from_residual-in_err-args-in-Open.result
    c.from_residual-in_err-args-in-Open.ensures.1 in
    let n = c.in_ok-name.name in
    leads_err c.args.text.now _ p.0 _ _ _ _ p.1 p.2
    (c.in_ok-name.ensures.takes (call_wanted heads) (λ x. call_named heads x) (takes_call heads)
    ∙ run-call_ended heads n c.args.text.now _ _ c.in_ok-name.ensures.over
    (c.spaces_end-end.ensures.over (call_ended heads n) refl)
    ∙ run-at c.args.text.now c.spaces_end-end.result (call_ended heads n)
    (call_arg_wanted (arguments_of heads n) false) Open
    (sym c.in-Open.ensures) (λ k. cc) refl)
    (c.in_err-args-in-Open.ensures.leads heads n)

pub returns-in_ok-args-in-Open-clause-leads : goal.returns-in_ok-args-in-Open-clause-leads
returns-in_ok-args-in-Open-clause-leads c = λ heads m.
    let n = c.in_ok-name.name in
    c.in_ok-name.ensures.takes (call_wanted heads) (λ x. call_named heads x) (takes_call heads)
    ∙ run-call_ended heads n c.args.text.now _ _ c.in_ok-name.ensures.over
    (c.spaces_end-end.ensures.over (call_ended heads n) refl)
    ∙ run-at c.args.text.now c.spaces_end-end.result (call_ended heads n)
    (call_arg_wanted (arguments_of heads n) false) Open
    (sym c.in-Open.ensures) (λ k. cc) refl
    ∙ c.in_ok-args-in-Open.ensures.leads heads n

pub returns-in_default-clause-leads : goal.returns-in_default-clause-leads
returns-in_default-clause-leads c = λ heads m.
    let n = c.in_ok-name.name in
    c.in_ok-name.ensures.takes (call_wanted heads) (λ x. call_named heads x) (takes_call heads)
    ∙ run-call_ended heads n c.args.text.now _ _ c.in_ok-name.ensures.over
    (c.spaces_end-end.ensures.over (call_ended heads n) refl)
    ∙ plain_called heads n _ m (λ e. c.in_default.not-Open (c.sort_at.ensures ∙ e))
    c.spaces_end-end.ensures.no_space
