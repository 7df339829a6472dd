use Rattle.build_meaning.proofs.MeaningAgreed.{stands_so as law}
use Rattle.build_meaning.proofs.steady.every_request_stands.Goals as goal

pub returns : goal.returns
returns g c = law
