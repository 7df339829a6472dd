use Rattle.build_history.proofs.JournalsReplayed.{requests_are_replayed as law}
use Rattle.build_history.proofs.replayed.requests_are_replayed.Goals as goal

pub returns : goal.returns
returns g c = law
