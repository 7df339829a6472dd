use Rattle.build_outcome.proofs.OutcomesAgree.{outcome_is_the_meanings as law}
use Rattle.build_outcome.proofs.steady.outcome_is_the_meanings.Goals as goal

pub returns : goal.returns
returns g c = law
