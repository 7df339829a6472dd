use Rattle.std.proofs.Common.{false, subst}
use Rattle.std.proofs.lemmas.Result.{IfOk-weaker}
use Rattle.build_world.specs.declared.world.World.{World as Given}
use Rattle.build_outcome.specs.Outcomes.{IsOutcome}
use Rattle.request_machine.specs.Worlds.{world_of}
use Rattle.msb_outcomes.specs.Trials.{IsComparison, IsTrial, no_tools}
use Rattle.msb_outcomes.proofs.trial.trial_on.Goals as goal

pub returns : goal.returns
returns g c =
    let options = c.args.options.now in
    let one = c.in_ok-one.one in
    let other = c.in_ok-other.other in
    IfOk-weaker c.compare.result (IsComparison options one other) (IsTrial options)
    (λ text compares. record {
      given = c.in_ok-world.world;
      set = c.in_ok-world.ensures;
      one = one;
      first = c.in_ok-one.ensures.comes;
      other = other;
      second = subst (λ (given : Given). ∥ IsOutcome (world_of no_tools given) false other ∥₁)
          c.of_world-given.ensures c.in_ok-other.ensures.outcome;
      compares = compares;
    }) c.compare.ensures
