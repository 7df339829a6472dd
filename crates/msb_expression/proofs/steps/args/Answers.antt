use Rattle.std.proofs.Common.{sym, ap, ◌∙◌, ◌+◌, drop, refl, []}
use Rattle.msb_expression.specs.declared.expression.Step.TheVariants.{Call}
use Rattle.msb_expression.specs.declared.sorts.Sort.TheVariants.{Close, Quote}
use Rattle.msb_expression.specs.Machine.{
  in_argument,
  inner,
  unmarked,
  in_text,
  stepping,
  args_opened,
  with_step,
  run,
}
use Rattle.msb_expression.proofs.NamePlaces.{Refuses-same}
use Rattle.msb_expression.proofs.Places.{run-at}
use Rattle.msb_expression.proofs.RefPlaces.{quote_cut}
use Rattle.msb_expression.proofs.StepPlaces.{leads_same, args_opened_stops}
use Rattle.msb_expression.proofs.steps.args.Goals as goal

pub some_args-requires-clause-cut : goal.some_args-requires-clause-cut
some_args-requires-clause-cut c = quote_cut c.args.text.now _ c.utf8.text (sym c.in-Quote.ensures)

pub returns-in-Close-clause-leads : goal.returns-in-Close-clause-leads
returns-in-Close-clause-leads c = λ heads function.
    c.spaces_end-start.ensures.over (args_opened heads function) refl
    ∙ run-at c.args.text.now c.spaces_end-start.result (args_opened heads function)
    (stepping (with_step heads (Call function []))) Close (sym c.in-Close.ensures) (λ k. cc)
    refl
    ∙ ap
    (λ list. run (drop (c.spaces_end-start.result + 1) c.args.text.now)
    (stepping (with_step heads (Call function list)))) (sym c.new.ensures)

pub returns-in-Quote-clause-leads : goal.returns-in-Quote-clause-leads
returns-in-Quote-clause-leads c = λ heads function.
    leads_same c.args.text.now _ _ _ _
    (c.spaces_end-start.ensures.over (args_opened heads function) refl
    ∙ run-at c.args.text.now c.spaces_end-start.result (args_opened heads function)
    (in_text (inner (in_argument heads function []) []) [] unmarked) Quote
    (sym c.in-Quote.ensures) (λ k. cc) refl)
    (c.some_args.ensures.leads heads function)

pub returns-in_default : goal.returns-in_default
returns-in_default c = record {
  leads = λ heads function.
      Refuses-same c.args.text.now _ _ _
      (c.spaces_end-start.ensures.over (args_opened heads function) refl
      ∙ args_opened_stops heads function _ c.spaces_end-start.ensures.no_space
      (λ e. c.in_default.not-Close (c.sort_at.ensures ∙ e))
      (λ e. c.in_default.not-Quote (c.sort_at.ensures ∙ e)))
      c.refusal.ensures;
  after = tt;
  within = tt;
}
