use Rattle.std.proofs.Common.{ap, refl}
use Rattle.std.specs.Prelude.{is_some}
use Rattle.build_scheduler.proofs.scheduler.Core.repeat.Goals as goal

pub returns-in_ok-end_at_once-in-Some-clause-exact :
    goal.returns-in_ok-end_at_once-in-Some-clause-exact
returns-in_ok-end_at_once-in-Some-clause-exact g c =
    ((λ t. c.in_ok-end_for.ensures.exact.0 (ap is_some c.in-Some.is)), (λ s. refl))
