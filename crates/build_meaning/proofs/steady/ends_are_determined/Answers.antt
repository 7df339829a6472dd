use Rattle.build_meaning.proofs.EndsDetermined.{ends as law}
use Rattle.build_meaning.proofs.steady.ends_are_determined.Goals as goal

pub returns : goal.returns
returns g c = law
