use Rattle.build_scheduler.proofs.Stopping.{end-told}
use Rattle.build_scheduler.proofs.scheduler.Core.end.Goals as goal

pub returns-clause-told : goal.returns-clause-told
returns-clause-told g c =
    let m = g.W.Walker in
    let self = c.args.self.now in
    end-told m.seen (m.world_of self.world) self.end self.legal self.stops
