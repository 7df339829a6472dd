use Rattle.build_meaning.proofs.ConsistentTables.{consistent as law}
use Rattle.build_meaning.proofs.histories.every_table_is_consistent.Goals as goal

pub returns : goal.returns
returns g c = law
