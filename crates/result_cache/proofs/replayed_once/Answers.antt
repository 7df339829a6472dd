use Rattle.result_cache.proofs.Closed.{replayed-again as law}
use Rattle.result_cache.proofs.replayed_once.Goals as goal

pub returns : goal.returns
returns c = law
