use Rattle.build_history.proofs.JournalsReplayed.{root_is_replayed as law}
use Rattle.build_history.proofs.replayed.root_is_replayed.Goals as goal

pub returns : goal.returns
returns g c = law
