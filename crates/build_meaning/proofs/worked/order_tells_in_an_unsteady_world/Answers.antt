use Rattle.build_meaning.proofs.worked.order_tells_in_an_unsteady_world.Goals as goal
use Rattle.build_meaning.proofs.Unsteady as world

pub returns-clause-whole : goal.returns-clause-whole
returns-clause-whole c = world.whole

pub returns-clause-not_steady : goal.returns-clause-not_steady
returns-clause-not_steady c = world.not_steady

pub returns-clause-writer_first : goal.returns-clause-writer_first
returns-clause-writer_first c = world.writer

pub returns-clause-looker_first : goal.returns-clause-looker_first
returns-clause-looker_first c = world.looker
