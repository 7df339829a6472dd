use Rattle.std.proofs.Common.{◌∙◌, None, refl}
use Rattle.std.proofs.lemmas.Result.{err_from_is_err_and}
use Rattle.msb_expression.specs.Machine.{call_heads}
use Rattle.msb_expression.proofs.StepPlaces.{leads_err}
use Rattle.msb_expression.proofs.calls.build_calls.Goals as goal

pub returns-in_err-end-clause-leads : goal.returns-in_err-end-clause-leads
returns-in_err-end-clause-leads c = λ parts.
    let p = err_from_is_err_and c.from_residual.result c.from_residual.ensures.1 in
    leads_err c.args.text.now _ p.0 _ _ _ _ p.1 p.2 refl (c.in_err-end.ensures.goes parts)

pub returns-in_err-first-clause-leads : goal.returns-in_err-first-clause-leads
returns-in_err-first-clause-leads c = λ parts.
    let p =
    err_from_is_err_and c.from_residual-in_err-first.result
    c.from_residual-in_err-first.ensures.1 in
    leads_err c.args.text.now _ p.0 _ _ _ _ p.1 p.2 (c.in_ok-end.ensures.goes parts)
    (c.in_err-first.ensures.leads parts)

pub returns-in_err-calls-clause-leads : goal.returns-in_err-calls-clause-leads
returns-in_err-calls-clause-leads c = λ parts.
    let p =
    err_from_is_err_and c.from_residual-in_err-calls.result
    c.from_residual-in_err-calls.ensures.1 in
    leads_err c.args.text.now _ p.0 _ _ _ _ p.1 p.2 (c.in_ok-end.ensures.goes parts
    ∙ c.in_ok-first.ensures.leads parts)
    (c.in_err-calls.ensures.leads (call_heads parts None) (c.in_ok-first.ensures.plain parts))

pub returns-clause-leads : goal.returns-clause-leads
returns-clause-leads c = λ parts.
    c.in_ok-end.ensures.goes parts ∙ c.in_ok-first.ensures.leads parts
    ∙ c.in_ok-calls.ensures.leads (call_heads parts None) (c.in_ok-first.ensures.plain parts)
