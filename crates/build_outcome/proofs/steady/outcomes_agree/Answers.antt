use Rattle.build_outcome.proofs.OutcomesAgree.{outcomes_agree as law}
use Rattle.build_outcome.proofs.steady.outcomes_agree.Goals as goal

pub returns : goal.returns
returns g c = law
