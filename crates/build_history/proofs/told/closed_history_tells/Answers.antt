use Rattle.build_history.proofs.JournalsReplayed.{closed_history_tells as law}
use Rattle.build_history.proofs.told.closed_history_tells.Goals as goal

pub returns : goal.returns
returns g c = law
