use Rattle.build_meaning.proofs.AssignedRequests.{stays as law}
use Rattle.build_meaning.proofs.histories.assigned_stays.Goals as goal

pub returns : goal.returns
returns g c = law
