use Rattle.build_history.proofs.UsesTold.{runs_use_tools_once as law}
use Rattle.build_history.proofs.tools.runs_use_tools_once.Goals as goal

pub returns : goal.returns
returns g c = law
