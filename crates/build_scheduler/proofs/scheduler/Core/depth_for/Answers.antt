use Rattle.std.proofs.Common.{arith}
use Rattle.build_meaning.specs.Meaning.{deepest}
use Rattle.build_scheduler.proofs.Refusing.{deep-refused, origin-there}
use Rattle.build_scheduler.proofs.scheduler.Core.depth_for.Goals as goal

pub depth_of-depth-requires : goal.depth_of-depth-requires
depth_of-depth-requires g c =
    let m = g.W.Walker in
    let self = c.args.self.now in
    origin-there m.seen (m.world_of self.world) c.args.id c.args.walk.now c.args.calls.now
    self.legal c.requires.own

pub too_deep-requires-clause-there : goal.too_deep-requires-clause-there
too_deep-requires-clause-there g c =
    let m = g.W.Walker in
    let self = c.args.self.now in
    origin-there m.seen (m.world_of self.world) c.args.id c.args.walk.now c.args.calls.now
    self.legal c.requires.own

pub returns-then-depth-clause-depth : goal.returns-then-depth-clause-depth
unfolding deepest
returns-then-depth-clause-depth g c = (c.depth_of-depth.ensures, omega (arith, c.if-depth.true))

pub returns-else-depth-clause-fault : goal.returns-else-depth-clause-fault
unfolding deepest
returns-else-depth-clause-fault g c =
    let m = g.W.Walker in
    let self = c.args.self.now in
    deep-refused m.seen (m.world_of self.world) c.args.id c.args.walk.now c.args.calls.now
    self.legal c.requires.own c.requires.asks self.nested c.depth_of-depth.result
    c.depth_of-depth.ensures (omega (arith, c.if-depth.false)) c.too_deep.result c.too_deep.ensures
