use Rattle.std.proofs.lemmas.Result.{err_from_is_err_and}
use Rattle.msb_expand.proofs.Calling.{token_stops}
use Rattle.msb_expand.proofs.tokens.calls_token.Goals as goal

pub returns-in_err-value : goal.returns-in_err-value
returns-in_err-value c =
    let p = err_from_is_err_and c.from_residual.result c.from_residual.ensures.1 in
    rw (p.1, p.2) (token_stops _ _ c.in_err-value.ensures)
