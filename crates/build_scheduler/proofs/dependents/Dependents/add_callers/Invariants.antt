use Rattle.std.proofs.Common.{take}
use Rattle.build_scheduler.specs.Dependents.{AreBroughtIn}
use Rattle.build_scheduler.proofs.dependents.Dependents.add_callers.Given as goal

abbrev pub invariant-loop-at : goal.invariant-loop-at
invariant-loop-at l = AreBroughtIn l.origins.items (take l.at l.requests.numbers) l.place
    l.fn.self.requests.keys l.fn.self.needs.items l.self.requests.keys l.self.needs.items
