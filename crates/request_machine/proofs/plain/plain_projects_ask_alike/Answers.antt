use Rattle.request_machine.proofs.PlainProjects.{plain_projects_ask_alike as law}
use Rattle.request_machine.proofs.plain.plain_projects_ask_alike.Goals as goal

pub returns : goal.returns
returns c = law
