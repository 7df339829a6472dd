use Rattle.build_meaning.proofs.NothingRefused.{nothing_refused as law}
use Rattle.build_meaning.proofs.steady.nothing_is_refused.Goals as goal

pub returns : goal.returns
returns g c = law
