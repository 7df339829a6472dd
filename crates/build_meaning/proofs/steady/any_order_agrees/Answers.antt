use Rattle.build_meaning.proofs.MeaningAgreed.{agrees as law}
use Rattle.build_meaning.proofs.steady.any_order_agrees.Goals as goal

pub returns : goal.returns
returns g c = law
