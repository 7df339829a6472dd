use Rattle.std.proofs.Common.{◌≡◌, true, false}
use Rattle.build_scheduler.proofs.Waiting.{
  absent-open,
  assigned-there,
  callers-there,
  cycle-told,
  finished-open,
  waiting-bounded,
}
use Rattle.build_scheduler.proofs.scheduler.Core.cycle.Goals as goal

pub returns-in-Absent : goal.returns-in-Absent
returns-in-Absent g c =
    let m = g.W.Walker in
    let self = c.args.self.now in (
      (λ e. absurd (let a : false ≡ true = e in cc)),
      λ h.
          absurd (absent-open m.seen (m.world_of self.world) c.args.id c.args.run.now self.legal
          c.in-Absent.ensures.0 c.in-Absent.ensures.1 h),
    )

pub returns-in-Done : goal.returns-in-Done
returns-in-Done g c =
    let m = g.W.Walker in
    let self = c.args.self.now in (
      (λ e. absurd (let a : false ≡ true = e in cc)),
      λ h.
          absurd (finished-open m.seen (m.world_of self.world) c.args.id c.args.run.now
          c.in-Done.field-0.now self.legal c.in-Done.ensures h),
    )

pub find_dependent-requires-clause-there : goal.find_dependent-requires-clause-there
find_dependent-requires-clause-there g c =
    let m = g.W.Walker in
    let self = c.args.self.now in
    assigned-there m.seen (m.world_of self.world) c.args.id self.legal c.requires.assigned

pub find_dependent-requires-clause-callers : goal.find_dependent-requires-clause-callers
find_dependent-requires-clause-callers g c =
    let m = g.W.Walker in
    let self = c.args.self.now in
    callers-there self.origins.items self.nested

pub find_dependent-requires-clause-waiting : goal.find_dependent-requires-clause-waiting
find_dependent-requires-clause-waiting g c =
    let m = g.W.Walker in
    let self = c.args.self.now in
    waiting-bounded m.seen (m.world_of self.world) self.legal self.indexed

pub returns-in_ok-dependent-in-Begun : goal.returns-in_ok-dependent-in-Begun
returns-in_ok-dependent-in-Begun g c =
    let m = g.W.Walker in
    let self = c.args.self.now in
    cycle-told m.seen (m.world_of self.world) c.args.id c.args.run.now c.in-Begun.by
    c.in_ok-dependent-in-Begun.dependent self.legal self.indexed c.requires.assigned
    c.in-Begun.ensures.1 c.in-Begun.ensures.0 c.in_ok-dependent-in-Begun.ensures c.is_some.result
    c.is_some.ensures
