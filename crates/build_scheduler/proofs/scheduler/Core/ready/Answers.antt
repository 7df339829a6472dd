use Rattle.build_scheduler.proofs.ReadyRequests.{least-ready}
use Rattle.build_scheduler.proofs.scheduler.Core.ready.Goals as goal

pub returns : goal.returns
returns g c =
    let m = g.W.Walker in
    let self = c.args.self.now in
    least-ready m.seen (m.world_of self.world) self.ready c.least.result self.legal self.indexed
    c.least.ensures
