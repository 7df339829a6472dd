use Rattle.std.proofs.Common.{ap, length}
use Rattle.std.proofs.lemmas.Result.{err_from_is_err_and}
use Rattle.msb_expression.specs.Reading.{read_as}
use Rattle.msb_expression.proofs.Sound.{run_sound}
use Rattle.msb_expression.proofs.Exact.{
  only_reading,
  not_read,
  handed_only,
  handed_refused,
  handed_only_refusal,
  handed_reading,
}
use Rattle.msb_expression.proofs.parsing.parse.Goals as goal

pub returns : goal.returns
returns c = record {
  found = run_sound c.args.text.now c.in_ok-parts.parts c.in_ok-parts.ensures;
  only = λ parts r. only_reading c.args.text.now c.in_ok-parts.parts parts c.in_ok-parts.ensures r;
  read = ap (read_as (length c.args.text.now)) c.in_ok-parts.ensures;
  refused = tt;
  only_refusal = λ fault m r. not_read c.args.text.now c.in_ok-parts.parts fault m r
      c.in_ok-parts.ensures;
}

pub returns-in_err-parts-clause-only : goal.returns-in_err-parts-clause-only
returns-in_err-parts-clause-only c =
    let p = err_from_is_err_and c.from_residual.result c.from_residual.ensures.1 in
    handed_only c.args.text.now c.from_residual.result p.0 _ p.1 p.2 c.in_err-parts.ensures

pub returns-in_err-parts-clause-refused : goal.returns-in_err-parts-clause-refused
returns-in_err-parts-clause-refused c =
    let p = err_from_is_err_and c.from_residual.result c.from_residual.ensures.1 in
    handed_refused c.args.text.now c.from_residual.result p.0 _ p.1 p.2 c.in_err-parts.ensures

pub returns-in_err-parts-clause-only_refusal : goal.returns-in_err-parts-clause-only_refusal
returns-in_err-parts-clause-only_refusal c =
    let p = err_from_is_err_and c.from_residual.result c.from_residual.ensures.1 in
    handed_only_refusal c.args.text.now c.from_residual.result p.0 _ p.1 p.2 c.in_err-parts.ensures

pub returns-in_err-parts-clause-read : goal.returns-in_err-parts-clause-read
returns-in_err-parts-clause-read c =
    let p = err_from_is_err_and c.from_residual.result c.from_residual.ensures.1 in
    handed_reading c.args.text.now c.from_residual.result p.0 _ p.1 p.2 c.in_err-parts.ensures
