use Rattle.build_meaning.proofs.worked.three_projects_in_a_circle.Goals as goal
use Rattle.build_meaning.proofs.Circle as world

pub returns-clause-not_whole : goal.returns-clause-not_whole
returns-clause-not_whole c = world.not_whole

pub returns-clause-refused : goal.returns-clause-refused
returns-clause-refused c = world.refused
