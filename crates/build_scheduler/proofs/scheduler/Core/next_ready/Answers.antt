use Rattle.build_scheduler.proofs.ReadyRequests.{least-ready, least-some, listed-ready}
use Rattle.build_scheduler.proofs.scheduler.Core.next_ready.Goals as goal

pub returns-in-Some-clause-ready : goal.returns-in-Some-clause-ready
returns-in-Some-clause-ready g c =
    let m = g.W.Walker in
    let self = c.args.self.now in
    listed-ready m.seen (m.world_of self.world) c.in-Some.id self.legal c.in-Some.ensures

pub returns-in-None-clause-ready : goal.returns-in-None-clause-ready
returns-in-None-clause-ready g c =
    let m = g.W.Walker in
    let self = c.args.self.now in
    least-some m.seen (m.world_of self.world) self.history.events c.least.result
    (least-ready m.seen (m.world_of self.world) self.ready c.least.result self.legal self.indexed
    c.least.ensures)
