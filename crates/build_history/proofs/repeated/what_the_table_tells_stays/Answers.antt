use Rattle.build_history.proofs.ToldByTable.{what_the_table_tells_stays as law}
use Rattle.build_history.proofs.repeated.what_the_table_tells_stays.Goals as goal

pub returns : goal.returns
returns g c = law
