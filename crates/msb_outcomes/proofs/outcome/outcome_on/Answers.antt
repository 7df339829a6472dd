use Rattle.std.proofs.Common.{subst}
use Rattle.msb_outcomes.specs.Outcomes.{HasStatus}
use Rattle.msb_outcomes.proofs.Working.{also_stops, each_stops}
use Rattle.msb_outcomes.proofs.outcome.outcome_on.Goals as goal

pub returns-in-Told-clause-status : goal.returns-in-Told-clause-status
returns-in-Told-clause-status g c =
    also_stops c.in-Told.outcome.status (subst HasStatus c.in-Told.is c.requires.status)

pub returns-in-Build-clause-status : goal.returns-in-Build-clause-status
returns-in-Build-clause-status g c =
    each_stops c.build_world_on.result c.build_world_on.ensures.status
