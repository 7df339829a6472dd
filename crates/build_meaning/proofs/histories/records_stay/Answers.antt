use Rattle.build_meaning.proofs.OrderlyHistories.{records_stay as law}
use Rattle.build_meaning.proofs.histories.records_stay.Goals as goal

pub returns : goal.returns
returns g c = law
