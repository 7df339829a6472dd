use Rattle.std.proofs.Common.{◌∙◌, sym, refl, arith}
use Rattle.std.proofs.lemmas.Result.{err_from_is_err_and}
use Rattle.msb_expression.specs.declared.expression.Step.TheVariants.{Call}
use Rattle.msb_expression.specs.declared.sorts.Sort.TheVariants.{Close, Comma}
use Rattle.msb_expression.specs.Machine.{in_argument, arg_ended, arg_wanted, stepping, with_step}
use Rattle.msb_expression.proofs.NamePlaces.{Refuses-same}
use Rattle.msb_expression.proofs.Places.{run-at}
use Rattle.msb_expression.proofs.StepPlaces.{leads_err, arg_read, arg_ended_stops, wants_arg}
use Rattle.msb_expression.proofs.steps.some_args.Goals as goal

pub returns-in-Close-clause-leads : goal.returns-in-Close-clause-leads
returns-in-Close-clause-leads c = λ heads function.
    arg_read heads function c.args.text.now _ _ _ _ _ c.push.new.self _
    (c.loop-args.invariant.goes heads function)
    (c.in_ok-arg.ensures.leads (in_argument heads function c.loop-args.args) refl)
    c.in_ok-push.ensures.ok
    (c.spaces_end-end.ensures.over (arg_ended heads function c.push.new.self) refl)
    ∙ run-at c.args.text.now c.spaces_end-end.result (arg_ended heads function c.push.new.self)
    (stepping (with_step heads (Call function c.push.new.self))) Close (sym c.in-Close.ensures)
    (λ k. cc) refl

pub returns-in_err-next-in-Comma-clause-leads : goal.returns-in_err-next-in-Comma-clause-leads
returns-in_err-next-in-Comma-clause-leads c = λ heads function.
    let p = err_from_is_err_and c.from_residual-in_err-next-in-Comma.result
    c.from_residual-in_err-next-in-Comma.ensures.1 in
    leads_err c.args.text.now _ p.0 _ _ _ _ p.1 p.2
    (arg_read heads function c.args.text.now _ _ _ _ _ c.push.new.self _
    (c.loop-args.invariant.goes heads function)
    (c.in_ok-arg.ensures.leads (in_argument heads function c.loop-args.args) refl)
    c.in_ok-push.ensures.ok
    (c.spaces_end-end.ensures.over (arg_ended heads function c.push.new.self) refl)
    ∙ run-at c.args.text.now c.spaces_end-end.result (arg_ended heads function c.push.new.self)
    (arg_wanted heads function c.push.new.self) Comma (sym c.in-Comma.ensures) (λ k. cc) refl)
    (c.in_err-next-in-Comma.ensures.goes (arg_wanted heads function c.push.new.self) _
    (wants_arg heads function c.push.new.self))

pub loop-args-preserved : goal.loop-args-preserved
loop-args-preserved c =
    let e = c.in_ok-next-in-Comma.ensures in
    let s = c.spaces_end-end.ensures in
    let a = c.in_ok-arg.ensures in
    record {
      after = omega (arith, e.after, s.after, a.after, c.loop-args.invariant.after);
      within = e.within;
      cut = e.cut;
      goes = λ heads function.
          arg_read heads function c.args.text.now _ _ _ _ _ c.push.new.self _
          (c.loop-args.invariant.goes heads function)
          (a.leads (in_argument heads function c.loop-args.args) refl) c.in_ok-push.ensures.ok
          (s.over (arg_ended heads function c.push.new.self) refl)
          ∙ run-at c.args.text.now c.spaces_end-end.result
          (arg_ended heads function c.push.new.self) (arg_wanted heads function c.push.new.self)
          Comma (sym c.in-Comma.ensures) (λ k. cc) refl
          ∙ e.goes (arg_wanted heads function c.push.new.self) _
          (wants_arg heads function c.push.new.self);
    }

pub returns-in_default : goal.returns-in_default
returns-in_default c = record {
  leads = λ heads function.
      Refuses-same c.args.text.now _ _ _
      (arg_read heads function c.args.text.now _ _ _ _ _ c.push.new.self _
      (c.loop-args.invariant.goes heads function)
      (c.in_ok-arg.ensures.leads (in_argument heads function c.loop-args.args) refl)
      c.in_ok-push.ensures.ok
      (c.spaces_end-end.ensures.over (arg_ended heads function c.push.new.self) refl)
      ∙ arg_ended_stops heads function c.push.new.self _ c.spaces_end-end.ensures.no_space
      (λ e. c.in_default.not-Close (c.sort_at.ensures ∙ e))
      (λ e. c.in_default.not-Comma (c.sort_at.ensures ∙ e)))
      c.refusal.ensures;
  after = tt;
  within = tt;
}
