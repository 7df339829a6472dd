use Rattle.request_machine.proofs.FilesSeen.{conditions_see_files_by_exists as law}
use Rattle.request_machine.proofs.plain.conditions_see_files_by_exists.Goals as goal

pub returns : goal.returns
returns c = law
