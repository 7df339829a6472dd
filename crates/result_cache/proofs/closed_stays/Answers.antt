use Rattle.result_cache.proofs.Closed.{
  closed-nothing,
  closed-acted,
  closed-ended,
  closed-merged,
  closed-replayed,
}
use Rattle.result_cache.proofs.closed_stays.Goals as goal

pub returns-clause-empty : goal.returns-clause-empty
returns-clause-empty c = closed-nothing

pub returns-clause-acted : goal.returns-clause-acted
returns-clause-acted c = closed-acted

pub returns-clause-ended : goal.returns-clause-ended
returns-clause-ended c = closed-ended

pub returns-clause-merged : goal.returns-clause-merged
returns-clause-merged c = closed-merged

pub returns-clause-replayed : goal.returns-clause-replayed
returns-clause-replayed c = closed-replayed
