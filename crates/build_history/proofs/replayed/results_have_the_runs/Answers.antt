use Rattle.build_history.proofs.JournalsReplayed.{results_have_the_runs as law}
use Rattle.build_history.proofs.replayed.results_have_the_runs.Goals as goal

pub returns : goal.returns
returns g c = law
