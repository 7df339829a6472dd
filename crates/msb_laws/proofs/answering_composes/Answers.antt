use Rattle.msb_laws.proofs.Trees.{composes}
use Rattle.msb_laws.proofs.answering_composes.Goals as goal

pub returns : goal.returns
returns g c = composes
