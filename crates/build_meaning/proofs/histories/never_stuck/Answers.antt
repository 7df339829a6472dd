use Rattle.build_meaning.proofs.HistoriesGoOn.{never_stuck as law}
use Rattle.build_meaning.proofs.histories.never_stuck.Goals as goal

pub returns : goal.returns
returns g c = law
