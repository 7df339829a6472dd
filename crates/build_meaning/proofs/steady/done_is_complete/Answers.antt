use Rattle.build_meaning.proofs.CompleteEnds.{complete as law}
use Rattle.build_meaning.proofs.steady.done_is_complete.Goals as goal

pub returns : goal.returns
returns g c = law
