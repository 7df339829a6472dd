use Rattle.msb_laws.proofs.Trees.{groups}
use Rattle.msb_laws.proofs.following_groups.Goals as goal

pub returns : goal.returns
returns g c = groups
