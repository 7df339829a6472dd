use Rattle.build_meaning.proofs.SingleWorlds.{single_is_steady as law}
use Rattle.build_meaning.proofs.meanings.single_is_steady.Goals as goal

pub returns : goal.returns
returns g c = law
