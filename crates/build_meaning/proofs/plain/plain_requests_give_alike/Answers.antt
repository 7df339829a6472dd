use Rattle.build_meaning.proofs.PlainRequests.{plain_requests_give_alike as law}
use Rattle.build_meaning.proofs.plain.plain_requests_give_alike.Goals as goal

pub returns : goal.returns
returns g c = law
