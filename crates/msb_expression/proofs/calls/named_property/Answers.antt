use Rattle.std.proofs.Common.{Some, sym, ap, ◌∙◌, drop, refl}
use Rattle.std.proofs.lemmas.Result.{err_from_is_err_and}
use Rattle.msb_expression.specs.Machine.{
  whole,
  property,
  name_ended,
  called,
  call_heads,
  with_calls,
  run,
}
use Rattle.msb_expression.proofs.NamePlaces.{Refuses-same}
use Rattle.msb_expression.proofs.RefPlaces.{close_cut, name_ended_stops, run-name_ended, run-close}
use Rattle.msb_expression.proofs.StepPlaces.{leads_err}
use Rattle.msb_expression.proofs.CallPlaces.{dot_called}
use Rattle.msb_expression.proofs.calls.named_property.Goals as goal

pub returns-in-Close-clause-leads : goal.returns-in-Close-clause-leads
returns-in-Close-clause-leads c = λ parts.
    c.in_ok-name.ensures.leads (whole parts) property
    ∙ run-name_ended (whole parts) property c.in_ok-name.name c.args.text.now _ _
    c.in_ok-name.ensures.over
    (c.spaces_end-end.ensures.over (name_ended (whole parts) property c.in_ok-name.name) refl)
    ∙ run-close (whole parts) property c.in_ok-name.name c.args.text.now _ (sym c.in-Close.ensures)

pub returns-in-Close-clause-cut : goal.returns-in-Close-clause-cut
returns-in-Close-clause-cut c = close_cut c.args.text.now _ c.utf8.text (sym c.in-Close.ensures)

pub returns-in_err-calls-in-Dot-clause-leads : goal.returns-in_err-calls-in-Dot-clause-leads
returns-in_err-calls-in-Dot-clause-leads c = λ parts.
    let p =
    err_from_is_err_and c.from_residual-in_err-calls-in-Dot.result
    c.from_residual-in_err-calls-in-Dot.ensures.1 in
    let n = c.in_ok-name.name in
    leads_err c.args.text.now _ p.0 _ _ _ _ p.1 p.2
    (c.in_ok-name.ensures.leads (whole parts) property
    ∙ run-name_ended (whole parts) property n c.args.text.now _ _ c.in_ok-name.ensures.over
    (c.spaces_end-end.ensures.over (name_ended (whole parts) property n) refl)
    ∙ dot_called parts n _ (sym c.in-Dot.ensures)
    ∙ ap (λ list. run (drop c.spaces_end-end.result c.args.text.now)
    (called (with_calls (call_heads parts (Some n)) list))) (sym c.new.ensures))
    (c.in_err-calls-in-Dot.ensures.leads (call_heads parts (Some n)) refl)

pub returns-in_ok-calls-in-Dot-clause-leads : goal.returns-in_ok-calls-in-Dot-clause-leads
returns-in_ok-calls-in-Dot-clause-leads c = λ parts.
    let n = c.in_ok-name.name in
    c.in_ok-name.ensures.leads (whole parts) property
    ∙ run-name_ended (whole parts) property n c.args.text.now _ _ c.in_ok-name.ensures.over
    (c.spaces_end-end.ensures.over (name_ended (whole parts) property n) refl)
    ∙ dot_called parts n _ (sym c.in-Dot.ensures)
    ∙ ap (λ list. run (drop c.spaces_end-end.result c.args.text.now)
    (called (with_calls (call_heads parts (Some n)) list))) (sym c.new.ensures)
    ∙ c.in_ok-calls-in-Dot.ensures.leads (call_heads parts (Some n)) refl

pub returns-in_default : goal.returns-in_default
returns-in_default c = record {
  leads = λ parts.
      Refuses-same c.args.text.now _ _ _
      (c.in_ok-name.ensures.leads (whole parts) property
      ∙ run-name_ended (whole parts) property c.in_ok-name.name c.args.text.now _ _
      c.in_ok-name.ensures.over
      (c.spaces_end-end.ensures.over (name_ended (whole parts) property c.in_ok-name.name) refl)
      ∙ name_ended_stops
      (whole parts) property c.in_ok-name.name _ c.spaces_end-end.ensures.no_space
      (λ e. c.in_default.not-Close (c.sort_at.ensures ∙ e))
      (λ e. absurd (c.in_default.not-Dot (c.sort_at.ensures ∙ e))))
      c.refusal.ensures;
  after = tt;
  within = tt;
  cut = tt;
}
