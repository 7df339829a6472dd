use Rattle.build_meaning.proofs.OrderlyHistories.{orderly as law}
use Rattle.build_meaning.proofs.histories.every_history_is_orderly.Goals as goal

pub returns : goal.returns
returns g c = law
