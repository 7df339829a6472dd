use Rattle.msb_laws.proofs.Trees.{ends}
use Rattle.msb_laws.proofs.following_ends.Goals as goal

pub returns : goal.returns
returns g c = ends
