use Rattle.build_history.proofs.ToldByTable.{calls_go_by_the_table as law}
use Rattle.build_history.proofs.repeated.calls_go_by_the_table.Goals as goal

pub returns : goal.returns
returns g c = law
