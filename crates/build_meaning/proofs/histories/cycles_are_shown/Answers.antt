use Rattle.build_meaning.proofs.CyclesShown.{cycles_are_shown, cycles_need_open}
use Rattle.build_meaning.proofs.histories.cycles_are_shown.Goals as goal

pub returns-clause-shown : goal.returns-clause-shown
returns-clause-shown g c = cycles_are_shown

pub returns-clause-open : goal.returns-clause-open
returns-clause-open g c = cycles_need_open
