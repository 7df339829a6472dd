use Rattle.build_meaning.proofs.ForeignJournals.{replaying_is_merging as law}
use Rattle.build_meaning.proofs.meanings.replaying_is_merging.Goals as goal

pub returns : goal.returns
returns g c = law
