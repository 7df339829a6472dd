use Rattle.build_meaning.proofs.HistoriesGoOn.{goes as law}
use Rattle.build_meaning.proofs.histories.every_history_goes_on.Goals as goal

pub returns : goal.returns
returns g c = law
