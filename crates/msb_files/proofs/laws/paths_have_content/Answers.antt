use Rattle.msb_files.proofs.PathLaws.{paths_rise, paths_there}
use Rattle.msb_files.proofs.laws.paths_have_content.Goals as goal

pub returns-clause-in_order : goal.returns-clause-in_order
returns-clause-in_order c = paths_rise

pub returns-clause-there : goal.returns-clause-there
returns-clause-there c = paths_there
