use Rattle.build_history.proofs.UsesMeant.{tools_are_used_as_meant as law}
use Rattle.build_history.proofs.tools.tools_are_used_as_meant.Goals as goal

pub returns : goal.returns
returns g c = law
