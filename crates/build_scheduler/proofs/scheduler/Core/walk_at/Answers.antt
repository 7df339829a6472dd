use Rattle.std.proofs.Common.{refl}
use Rattle.build_scheduler.proofs.Assigning.{listed-there}
use Rattle.build_scheduler.proofs.OverAtOnce.{
  come-copied,
  come-replayed,
  may-replay,
  ready-there,
  walk-asked,
  walk-over,
}
use Rattle.build_scheduler.proofs.scheduler.Core.walk_at.Goals as goal

pub began_with_nothing-requires : goal.began_with_nothing-requires
began_with_nothing-requires g c =
    let m = g.W.Walker in
    let self = c.args.self.now in
    record {
      there = ready-there m.seen (m.world_of self.world)
          self.legal c.args.id c.requires.ready;
    }

pub copy_end-requires-clause-asked : goal.copy_end-requires-clause-asked
copy_end-requires-clause-asked g c =
    let m = g.W.Walker in
    let self = c.args.self.now in
    walk-asked m.seen (m.world_of self.world) self.legal self.kept c.args.id c.args.kept.now
    self.kept_so c.requires.ready c.requires.serves

pub copy_end-requires-clause-over : goal.copy_end-requires-clause-over
copy_end-requires-clause-over g c =
    let m = g.W.Walker in
    let self = c.args.self.now in
    walk-over m.seen (m.world_of self.world) self.legal self.kept c.args.id c.args.kept.now
    self.kept_so c.requires.ready c.requires.serves

pub ready_walk-requires : goal.ready_walk-requires
ready_walk-requires g c =
    let m = g.W.Walker in
    let self = c.args.self.now in
    (listed-there m.seen (m.world_of self.world) c.args.id self.legal self.indexed
    c.requires.ready).1

pub end_as-requires-clause-asked : goal.end_as-requires-clause-asked
end_as-requires-clause-asked g c =
    let m = g.W.Walker in
    let self = c.args.self.now in
    walk-asked m.seen (m.world_of self.world) self.legal self.kept c.args.id c.args.kept.now
    self.kept_so c.requires.ready c.requires.serves

pub end_as-requires-clause-over : goal.end_as-requires-clause-over
end_as-requires-clause-over g c =
    let m = g.W.Walker in
    let self = c.args.self.now in
    walk-over m.seen (m.world_of self.world) self.legal self.kept c.args.id c.args.kept.now
    self.kept_so c.requires.ready c.requires.serves

pub end_as-requires-clause-replays : goal.end_as-requires-clause-replays
end_as-requires-clause-replays g c =
    let m = g.W.Walker in
    let self = c.args.self.now in
    may-replay m.seen (m.world_of self.world) self.legal self.kept c.args.id c.args.kept.now
    self.kept_so c.requires.ready c.requires.serves c.ready_walk.result.now c.ready_walk.ensures

pub returns-then-began_with_nothing : goal.returns-then-began_with_nothing
returns-then-began_with_nothing g c =
    let m = g.W.Walker in
    let self = c.args.self.now in
    come-copied m.seen (m.world_of self.world) self.legal self.kept c.args.id c.args.kept.now
    self.kept_so c.requires.ready c.requires.serves c.in_ok-copy_end.field-0 c.if-kept.true
    (c.if-began_with_nothing.ensures.0 refl) (λ i. record {
      world = c.in_ok-copy_end.ensures.world i;
      position = c.in_ok-copy_end.ensures.position i;
      asked = c.in_ok-copy_end.ensures.asked i;
      learnt = c.in_ok-copy_end.ensures.learnt i;
    })

pub returns : goal.returns
returns g c =
    let m = g.W.Walker in
    let self = c.args.self.now in
    come-replayed m.seen (m.world_of self.world) self.legal self.kept c.args.id c.args.kept.now
    self.kept_so c.requires.ready c.requires.serves c.ready_walk.result.now c.in_ok-end_as.field-0
    c.ready_walk.ensures c.in_ok-end_as.ensures.world c.in_ok-end_as.ensures.journal
    c.in_ok-end_as.ensures.runs c.in_ok-end_as.ensures.place c.in_ok-end_as.ensures.asked
    c.in_ok-end_as.ensures.learnt
