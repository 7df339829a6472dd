use Rattle.std.proofs.Common.{subst}
use Rattle.build_scheduler.specs.Requests.{IsRefused}
use Rattle.build_scheduler.proofs.Replying.{deep-stops, many-stops}
use Rattle.build_scheduler.proofs.scheduler.Core.answer_call.Goals as goal

pub stop-requires-clause-shown : goal.stop-requires-clause-shown
stop-requires-clause-shown g c =
    let m = g.W.Walker in
    let self = c.args.self.now in
    let next = c.request.new.self in
    let told = c.in-Err.ensures.requested in
    let refused = subst
    (IsRefused (m.world_of self.world) self.history.events c.args.id c.args.calls)
    c.in-TooDeep.is told.2 in
    deep-stops (m.world_of self.world) (m.world_of next.world) self.history.events
    next.history.events c.request.ensures.world told.0 c.args.id c.args.calls c.in-TooDeep.keys
    refused

pub stop-requires-in-TooMany-clause-shown : goal.stop-requires-in-TooMany-clause-shown
stop-requires-in-TooMany-clause-shown g c =
    let m = g.W.Walker in
    let self = c.args.self.now in
    let next = c.request.new.self in
    let told = c.in-Err.ensures.requested in
    let refused = subst
    (IsRefused (m.world_of self.world) self.history.events c.args.id c.args.calls)
    c.in-TooMany.is told.2 in
    many-stops (m.world_of self.world) (m.world_of next.world) self.history.events
    next.history.events c.request.ensures.world told.0 c.args.id c.args.calls c.in-TooMany.instance
    refused
