use Rattle.std.proofs.Common.{◌∙◌, sym, refl, arith}
use Rattle.std.proofs.lemmas.Result.{err_from_is_err_and}
use Rattle.msb_expression.specs.declared.sorts.Sort.TheVariants.{Dash}
use Rattle.msb_expression.specs.Machine.{stepping, dashed, with_steps}
use Rattle.msb_expression.proofs.Places.{run-at}
use Rattle.msb_expression.proofs.StepPlaces.{leads_err, step_read}
use Rattle.msb_expression.proofs.steps.steps.Goals as goal

pub returns-in_err-step-clause-leads : goal.returns-in_err-step-clause-leads
returns-in_err-step-clause-leads c = λ heads.
    let p = err_from_is_err_and c.from_residual.result c.from_residual.ensures.1 in
    leads_err c.args.text.now _ p.0 _ _ _ _ p.1 p.2
    (c.loop-steps.invariant.goes heads
    ∙ run-at c.args.text.now c.loop-steps.next (stepping (with_steps heads c.loop-steps.steps))
    (dashed (with_steps heads c.loop-steps.steps)) Dash (sym c.in-Dash.ensures) (λ k. cc) refl)
    (c.in_err-step.ensures.leads (with_steps heads c.loop-steps.steps))

pub loop-steps-preserved : goal.loop-steps-preserved
loop-steps-preserved c =
    let s = c.spaces_end-next-in-Dash.ensures in
    let k = c.in_ok-step.ensures in
    record {
      after = omega (arith, s.after, k.after, c.loop-steps.invariant.after);
      within = s.within;
      no_space = s.no_space;
      goes = λ heads.
          step_read heads c.args.text.now _ _ _ _ c.loop-steps.steps c.push.new.self _
          (c.loop-steps.invariant.goes heads) (sym c.in-Dash.ensures)
          (k.leads (with_steps heads c.loop-steps.steps)) c.in_ok-push.ensures.ok
          (s.over (stepping (with_steps heads c.push.new.self)) refl);
    }
