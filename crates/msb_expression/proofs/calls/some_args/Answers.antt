use Rattle.std.proofs.Common.{◌∙◌, sym, refl, false, Some, arith}
use Rattle.std.proofs.lemmas.Result.{err_from_is_err_and}
use Rattle.msb_expression.specs.declared.sorts.Sort.TheVariants.{Close, Comma}
use Rattle.msb_expression.specs.Machine.{
  called,
  call_arg_wanted,
  call_arg_ended,
  with_call,
  property_call,
  with_all_args,
}
use Rattle.msb_expression.proofs.Joined.{append_some}
use Rattle.msb_expression.proofs.NamePlaces.{Refuses-same}
use Rattle.msb_expression.proofs.Places.{has_byte, run-at}
use Rattle.msb_expression.proofs.RefPlaces.{comma_cut}
use Rattle.msb_expression.proofs.StepPlaces.{leads_err}
use Rattle.msb_expression.proofs.CallPlaces.{argument_read, arg_ended_stops}
use Rattle.msb_expression.proofs.calls.some_args.Goals as goal

pub returns-in_err-arg-clause-leads : goal.returns-in_err-arg-clause-leads
returns-in_err-arg-clause-leads c = λ heads function.
    let p = err_from_is_err_and c.from_residual.result c.from_residual.ensures.1 in
    leads_err c.args.text.now _ p.0 _ _ _ _ p.1 p.2 (c.loop-args.invariant.goes heads function)
    (c.in_err-arg.ensures.leads (with_all_args heads function c.loop-args.args)
    c.loop-args.invariant.wanted)

pub returns-in-Close-clause-leads : goal.returns-in-Close-clause-leads
returns-in-Close-clause-leads c = λ heads function.
    argument_read heads function c.args.text.now _ _ _ _ c.push.new.self _
    (c.loop-args.invariant.goes heads function)
    (c.in_ok-arg.ensures.leads (with_all_args heads function c.loop-args.args)
    c.loop-args.invariant.wanted) c.in_ok-push.ensures.ok
    ∙ run-at c.args.text.now _ (call_arg_ended (with_all_args heads function c.push.new.self))
    (called (with_call heads (property_call function (Some c.push.new.self)))) Close
    (sym c.in-Close.ensures) (λ k. cc) refl

pub loop-args-preserved : goal.loop-args-preserved
loop-args-preserved c =
    let a = c.in_ok-arg.ensures in
    let b =
    has_byte c.args.text.now c.in_ok-arg.end (λ k. let z = c.in-Comma.ensures ∙ k in cc) in
    record {
      after = omega (arith, a.after, c.loop-args.invariant.after);
      within = omega (arith, b.within);
      cut = comma_cut c.args.text.now _ c.utf8.text (sym c.in-Comma.ensures);
      wanted = λ e. absurd (append_some c.loop-args.args _ (sym c.in_ok-push.ensures.ok ∙ e));
      goes = λ heads function.
          argument_read heads function c.args.text.now _ _ _ _ c.push.new.self _
          (c.loop-args.invariant.goes heads function)
          (a.leads (with_all_args heads function c.loop-args.args) c.loop-args.invariant.wanted)
          c.in_ok-push.ensures.ok
          ∙ run-at c.args.text.now _ (call_arg_ended (with_all_args heads function c.push.new.self))
          (call_arg_wanted (with_all_args heads function c.push.new.self) false) Comma
          (sym c.in-Comma.ensures) (λ k. cc) refl;
    }

pub returns-in_default : goal.returns-in_default
returns-in_default c = record {
  leads = λ heads function.
      Refuses-same c.args.text.now _ _ _
      (argument_read heads function c.args.text.now _ _ _ _ c.push.new.self _
      (c.loop-args.invariant.goes heads function)
      (c.in_ok-arg.ensures.leads (with_all_args heads function c.loop-args.args)
      c.loop-args.invariant.wanted) c.in_ok-push.ensures.ok
      ∙ arg_ended_stops (with_all_args heads function c.push.new.self) _
      c.in_ok-arg.ensures.no_space
      (λ e. c.in_default.not-Close (c.sort_at.ensures ∙ e))
      (λ e. c.in_default.not-Comma (c.sort_at.ensures ∙ e)))
      c.refusal.ensures;
  after = tt;
  within = tt;
}
