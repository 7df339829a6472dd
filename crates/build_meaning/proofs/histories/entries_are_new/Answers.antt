use Rattle.build_meaning.proofs.NewEntries.{entries_are_new as law}
use Rattle.build_meaning.proofs.histories.entries_are_new.Goals as goal

pub returns : goal.returns
returns g c = law
