use Rattle.std.proofs.Common.{◌∙◌, sym, refl, arith}
use Rattle.std.proofs.lemmas.Result.{err_from_is_err_and}
use Rattle.msb_expression.specs.declared.sorts.Sort.TheVariants.{Dot}
use Rattle.msb_expression.specs.Machine.{called, call_wanted, with_calls}
use Rattle.msb_expression.proofs.Places.{run-at}
use Rattle.msb_expression.proofs.StepPlaces.{leads_err}
use Rattle.msb_expression.proofs.CallPlaces.{calls_plain, call_read}
use Rattle.msb_expression.proofs.calls.all_calls.Goals as goal

pub returns-in_err-call-clause-leads : goal.returns-in_err-call-clause-leads
returns-in_err-call-clause-leads c = λ heads m.
    let p = err_from_is_err_and c.from_residual.result c.from_residual.ensures.1 in
    let now = with_calls heads c.loop-calls.calls in
    leads_err c.args.text.now _ p.0 _ _ _ _ p.1 p.2
    (c.loop-calls.invariant.goes heads m
    ∙ run-at c.args.text.now c.loop-calls.next (called now) (call_wanted now) Dot
    (sym c.in-Dot.ensures) (λ k. cc) refl)
    (c.in_err-call.ensures.leads now (c.loop-calls.invariant.plain heads m))

pub loop-calls-preserved : goal.loop-calls-preserved
loop-calls-preserved c =
    let s = c.spaces_end-next-in-Dot.ensures in
    let k = c.in_ok-call.ensures in
    record {
      after = omega (arith, s.after, k.after, c.loop-calls.invariant.after);
      within = s.within;
      no_space = s.no_space;
      plain =
          λ heads m. calls_plain heads c.loop-calls.calls c.push.new.self _ c.in_ok-push.ensures.ok;
      goes = λ heads m.
          call_read heads c.args.text.now _ _ _ _ c.loop-calls.calls c.push.new.self _
          (c.loop-calls.invariant.goes heads m) (sym c.in-Dot.ensures)
          (k.leads (with_calls heads c.loop-calls.calls) (c.loop-calls.invariant.plain heads m))
          c.in_ok-push.ensures.ok
          (s.over (called (with_calls heads c.push.new.self)) refl);
    }
