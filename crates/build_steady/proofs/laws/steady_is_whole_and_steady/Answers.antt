use Rattle.build_steady.proofs.SteadyVerdicts.{steady-told, steady-so}
use Rattle.build_steady.proofs.laws.steady_is_whole_and_steady.Goals as goal

pub returns-clause-yes : goal.returns-clause-yes
returns-clause-yes g c w n h = steady-told w n h

pub returns-clause-told : goal.returns-clause-told
returns-clause-told g c w out whole steady few = steady-so w out whole steady few
