use Rattle.build_meaning.proofs.RetiredRequests.{retire_keeps_runs, retired_goes_on}
use Rattle.build_meaning.proofs.histories.retire_keeps_runs.Goals as goal

pub returns-clause-runs : goal.returns-clause-runs
returns-clause-runs g c = retire_keeps_runs

pub returns-clause-goes_on : goal.returns-clause-goes_on
returns-clause-goes_on g c = retired_goes_on
