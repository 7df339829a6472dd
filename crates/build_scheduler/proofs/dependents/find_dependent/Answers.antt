use Rattle.std.proofs.Common.{Some}
use Rattle.build_scheduler.proofs.Looking.{parent-caller}
use Rattle.build_scheduler.proofs.dependents.find_dependent.Goals as goal

pub search-requires-clause-there : goal.search-requires-clause-there
search-requires-clause-there c = c.requires.callers c.args.id c.in-Some.first
    (parent-caller c.args.origins.now.items c.args.id (Some c.in-Some.first) c.in-Some.ensures)
