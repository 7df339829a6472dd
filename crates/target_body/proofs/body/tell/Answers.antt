use Rattle.std.proofs.Common.{◌∙◌, List, [], ap, refl, subst, sym}
use Rattle.result_cache.specs.declared.record.Record.{Record}
use Rattle.result_cache.specs.declared.request.RequestKey.{RequestKey}
use Rattle.target_body.specs.Standings.{Tells, standing_by}
use Rattle.target_body.specs.declared.body.BodyAsk.TheVariants.{Call, Finished}
use Rattle.target_body.specs.declared.body.Stand.TheVariants.{Ended, Waiting}
use Rattle.target_body.specs.declared.frames.AtRun.{AtRun}
use Rattle.target_body.specs.declared.steps.Step.{Step}
use Rattle.target_body.proofs.body.tell.Goals as goal

pub returns-in-Over : goal.returns-in-Over
returns-in-Over c = λ choose run.
    let P : Step AtRun → Type 0 = λ step. Tells choose run c.args.state step
    (Finished c.record_of.result) (standing_by choose run Ended) in
    subst P (sym c.in-Over.is) (ap (λ (r : Record). Finished r) (c.record_of.ensures []), refl)

pub returns-in_ok-keys-in-Waits : goal.returns-in_ok-keys-in-Waits
returns-in_ok-keys-in-Waits c = λ choose run.
    let P : Step AtRun → Type 0 = λ step. Tells choose run c.args.state step
    (Call c.in_ok-keys-in-Waits.keys)
    (standing_by choose run (Waiting (record { state = c.args.state; at = c.in-Waits.at }))) in
    subst P (sym c.in-Waits.is) (
      ap (λ (keys : List RequestKey). Call keys)
          (c.in_ok-keys-in-Waits.ensures ∙ c.waiting.ensures),
      refl,
    )
