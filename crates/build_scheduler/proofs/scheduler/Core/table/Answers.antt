use Rattle.std.proofs.Common.{subst, sym}
use Rattle.std.proofs.Math.Logic.{∥∥₁_elim}
use Rattle.build_scheduler.specs.Learnt.{AreInOrder}
use Rattle.build_scheduler.proofs.HistoryFacts.{in_order-prop, table_in_order}
use Rattle.build_scheduler.proofs.scheduler.Core.table.Goals as goal

pub returns-clause-in_order : goal.returns-clause-in_order
returns-clause-in_order g c = ∥∥₁_elim c.args.self.now.legal
    (in_order-prop c.args.self.now.table.finished) (λ x.
    subst AreInOrder (sym x.finished)
    (table_in_order (g.W.Walker.world_of c.args.self.now.world) c.args.self.now.history.events
    x.state x.history))
