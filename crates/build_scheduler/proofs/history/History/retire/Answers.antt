use Rattle.std.proofs.Common.{arith}
use Rattle.build_scheduler.proofs.HistoryRoom.{retires-one, active-of}
use Rattle.build_scheduler.proofs.history.History.retire.Goals as goal

pub invariant_of-self : goal.invariant_of-self
invariant_of-self c =
    let v = c.self.invariant in
    let taken = v.taken in
    let few = v.few in
    let active = v.active in
    let events = c.self.inside.events.items in
    record {
      taken = omega (arith, c.in-Ok.ensures.len, c.in-Ok.ensures.capacity);
      few = omega (arith, c.in-Ok.ensures.len);
      counted = retires-one events c.args.id c.args.node c.in-Ok.ensures.items v.counted;
      active = omega (arith, c.if-self.false);
      most = v.most;
    }

pub returns-clause-active : goal.returns-clause-active
returns-clause-active c =
    let v = c.self.invariant in
    let active = v.active in
    let events = c.self.inside.events.items in
    active-of c.push.new.self.items c.self.inside.nodes
    (retires-one events c.args.id c.args.node c.in-Ok.ensures.items v.counted)
    (omega (arith, c.if-self.false))
