use Rattle.std.proofs.Common.{◌∙◌, sym, refl}
use Rattle.std.proofs.lemmas.Result.{err_from_is_err_and}
use Rattle.msb_expression.specs.Machine.{in_call, call_arg_ended, with_arg}
use Rattle.msb_expression.proofs.RefPlaces.{quote_cut}
use Rattle.msb_expression.proofs.StepPlaces.{leads_err}
use Rattle.msb_expression.proofs.CallPlaces.{quote_there}
use Rattle.msb_expression.proofs.calls.arg.Goals as goal

pub pieces-requires-clause-cut : goal.pieces-requires-clause-cut
pieces-requires-clause-cut c = quote_cut c.args.text.now _ c.utf8.text (sym c.in-Quote.ensures)

pub returns-in_err-pieces-in-Quote-clause-leads : goal.returns-in_err-pieces-in-Quote-clause-leads
returns-in_err-pieces-in-Quote-clause-leads c = λ a w.
    let p = err_from_is_err_and c.from_residual.result c.from_residual.ensures.1 in
    let s = c.spaces_end-start.ensures in
    leads_err c.args.text.now _ p.0 _ _ _ _ p.1 p.2
    (quote_there a c.args.text.now c.args.at c.spaces_end-start.result s.after s.spaces
    (sym c.in-Quote.ensures))
    (c.in_err-pieces-in-Quote.ensures.leads (in_call a) refl)

pub returns-in_ok-pieces-in-Quote-clause-leads : goal.returns-in_ok-pieces-in-Quote-clause-leads
returns-in_ok-pieces-in-Quote-clause-leads c = λ a w.
    let s = c.spaces_end-start.ensures in
    quote_there a c.args.text.now c.args.at c.spaces_end-start.result s.after s.spaces
    (sym c.in-Quote.ensures)
    ∙ c.in_ok-pieces-in-Quote.ensures.leads (in_call a) refl
    ∙ c.spaces_end.ensures.over (call_arg_ended (with_arg a c.in_ok-pieces-in-Quote.pieces)) refl

pub unquoted_argument-requires-clause-no_quote : goal.unquoted_argument-requires-clause-no_quote
unquoted_argument-requires-clause-no_quote c = λ e. c.in_default.not-Quote (c.sort_at.ensures ∙ e)
