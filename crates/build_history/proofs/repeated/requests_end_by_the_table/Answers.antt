use Rattle.build_history.proofs.ToldByTable.{requests_end_by_the_table as law}
use Rattle.build_history.proofs.repeated.requests_end_by_the_table.Goals as goal

pub returns : goal.returns
returns g c = law
