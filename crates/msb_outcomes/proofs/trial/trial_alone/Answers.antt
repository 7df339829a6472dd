use Rattle.std.proofs.lemmas.Result.{IfOk-weaker}
use Rattle.msb_outcomes.specs.Trials.{IsComparison, IsTrial}
use Rattle.msb_outcomes.proofs.trial.trial_alone.Goals as goal

pub returns : goal.returns
returns c =
    let options = c.args.options.now in
    let one = c.in_ok-one.one in
    let other = c.in_ok-other.other in
    IfOk-weaker c.compare.result (IsComparison options one other) (IsTrial options)
    (λ text compares. record {
      given = c.in_ok-world.world;
      set = c.in_ok-world.ensures;
      one = one;
      first = c.in_ok-one.ensures.comes;
      other = other;
      second = c.in_ok-other.ensures.outcome;
      compares = compares;
    }) c.compare.ensures
