use Rattle.build_meaning.proofs.worked.two_calls_want_one_run.Goals as goal
use Rattle.build_meaning.proofs.SharedRun as world

pub returns-clause-whole : goal.returns-clause-whole
returns-clause-whole c = world.whole

pub returns-clause-steady : goal.returns-clause-steady
returns-clause-steady c = world.steady

pub returns-clause-history : goal.returns-clause-history
returns-clause-history c = world.history
