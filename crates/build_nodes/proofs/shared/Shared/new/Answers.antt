use Rattle.std.proofs.Common.{arith}
use Rattle.build_nodes.proofs.Marks.{length-marked}
use Rattle.build_nodes.proofs.shared.Shared.new.Goals as goal

pub returns-clause-few : goal.returns-clause-few
returns-clause-few g c = omega
    (arith, length-marked c.args.core.history.events c.args.core.end, c.few_events.ensures)
