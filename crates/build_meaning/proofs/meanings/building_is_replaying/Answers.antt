use Rattle.build_meaning.proofs.ForeignJournals.{building_is_replaying as law}
use Rattle.build_meaning.proofs.meanings.building_is_replaying.Goals as goal

pub returns : goal.returns
returns g c = law
