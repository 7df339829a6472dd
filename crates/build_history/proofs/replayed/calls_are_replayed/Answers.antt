use Rattle.build_history.proofs.CallsReplayed.{calls_are_replayed as law}
use Rattle.build_history.proofs.replayed.calls_are_replayed.Goals as goal

pub returns : goal.returns
returns g c = law
