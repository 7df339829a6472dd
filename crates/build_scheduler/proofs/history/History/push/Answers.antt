use Rattle.std.proofs.Common.{◌<◌, subst, sym, arith}
use Rattle.build_scheduler.proofs.HistoryRoom.{retires-other, active-of}
use Rattle.build_scheduler.proofs.history.History.push.Goals as goal

pub invariant_of-self : goal.invariant_of-self
invariant_of-self c =
    let v = c.self.invariant in
    let taken = v.taken in
    let few = v.few in
    let some : 0 < c.self.inside.room =
    subst (λ v. 0 < v.room) (sym c.self.view_is) c.requires.room in
    let events = c.self.inside.events.items in
    record {
      taken = omega (arith, c.in-Ok.ensures.len, c.in-Ok.ensures.capacity);
      few = omega (arith, c.in-Ok.ensures.len);
      counted =
          retires-other events c.args.event c.in-Ok.ensures.items c.requires.other v.counted;
      active = v.active;
      most = v.most;
    }

pub returns-clause-active : goal.returns-clause-active
returns-clause-active c =
    let v = c.self.invariant in
    let events = c.self.inside.events.items in
    active-of c.push.new.self.items c.self.inside.nodes
    (retires-other events c.args.event c.in-Ok.ensures.items c.requires.other v.counted) v.active
