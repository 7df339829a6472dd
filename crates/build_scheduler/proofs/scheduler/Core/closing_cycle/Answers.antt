use Rattle.std.proofs.Common.{subst}
use Rattle.std.proofs.Math.Logic.{∥∥₁_map}
use Rattle.build_meaning.proofs.ListPlaces.{at-less}
use Rattle.build_scheduler.specs.Dependents.{TellsDependent}
use Rattle.result_cache.proofs.RunTests.{clash}
use Rattle.build_scheduler.proofs.FreeCalls.{begun-slot, free-closes}
use Rattle.build_scheduler.proofs.Looking.{found-backward}
use Rattle.build_scheduler.proofs.Waiting.{
  assigned-there,
  callers-there,
  circle-closed,
  circle-open,
  own-assigned,
  waiting-bounded,
  way-making,
}
use Rattle.build_scheduler.proofs.scheduler.Core.closing_cycle.Goals as goal

pub find_dependent-requires-clause-there : goal.find_dependent-requires-clause-there
find_dependent-requires-clause-there g c =
    let m = g.W.Walker in
    let self = c.args.self.now in
    assigned-there m.seen (m.world_of self.world) c.args.id self.legal (∥∥₁_map c.requires.own
    (λ o. own-assigned m.seen (m.world_of self.world) c.args.id c.args.walk.now o))

pub find_dependent-requires-clause-callers : goal.find_dependent-requires-clause-callers
find_dependent-requires-clause-callers g c =
    let m = g.W.Walker in
    let self = c.args.self.now in
    callers-there self.origins.items self.nested

pub find_dependent-requires-clause-waiting : goal.find_dependent-requires-clause-waiting
find_dependent-requires-clause-waiting g c =
    let m = g.W.Walker in
    let self = c.args.self.now in
    waiting-bounded m.seen (m.world_of self.world) self.legal self.indexed

pub runs-requires-clause-within : goal.runs-requires-clause-within
runs-requires-clause-within g c =
    let self = c.args.self.now in
    let n = subst (TellsDependent self.origins.items self.waiting.items c.args.id c.args.by)
    c.in-Some.is c.in_ok-find_dependent.ensures in
    at-less c.in-Some.dependent.dependents.requests.keys c.in-Some.dependent.place c.args.by n.3

pub runs-requires-clause-backward : goal.runs-requires-clause-backward
runs-requires-clause-backward g c =
    let self = c.args.self.now in
    let n = subst (TellsDependent self.origins.items self.waiting.items c.args.id c.args.by)
    c.in-Some.is c.in_ok-find_dependent.ensures in
    found-backward self.origins.items self.waiting.items n.0
    c.in-Some.dependent.dependents.requests.keys c.in-Some.dependent.dependents.needs.items n.2

pub runs-requires-clause-making : goal.runs-requires-clause-making
runs-requires-clause-making g c =
    let m = g.W.Walker in
    let self = c.args.self.now in
    let n = subst (TellsDependent self.origins.items self.waiting.items c.args.id c.args.by)
    c.in-Some.is c.in_ok-find_dependent.ensures in
    way-making m.seen (m.world_of self.world) c.args.id c.args.run.now c.args.by c.in-Some.dependent
    self.legal self.indexed (∥∥₁_map c.requires.own (λ o. own-assigned m.seen
    (m.world_of self.world) c.args.id c.args.walk.now o)) c.requires.begun c.requires.unfinished n

pub returns-in-None : goal.returns-in-None
returns-in-None g c =
    let m = g.W.Walker in
    let self = c.args.self.now in
    let n = subst (TellsDependent self.origins.items self.waiting.items c.args.id c.args.by)
    c.in-None.is c.in_ok-find_dependent.ensures in
    circle-open m.seen (m.world_of self.world) c.args.id c.args.run.now c.args.by self.legal
    self.indexed c.requires.begun c.requires.unfinished n

pub returns-in_ok-runs-in-Some : goal.returns-in_ok-runs-in-Some
returns-in_ok-runs-in-Some g c =
    let m = g.W.Walker in
    let self = c.args.self.now in
    let n = subst (TellsDependent self.origins.items self.waiting.items c.args.id c.args.by)
    c.in-Some.is c.in_ok-find_dependent.ensures in
    circle-closed m.seen (m.world_of self.world) c.args.id c.args.walk.now c.args.run.now c.args.by
    c.in-Some.dependent c.in_ok-runs-in-Some.field-0 self.legal self.indexed c.requires.own
    c.requires.asks c.requires.begun c.requires.unfinished n c.in_ok-runs-in-Some.ensures

pub is_caller-requires : goal.is_caller-requires
is_caller-requires g c =
    let m = g.W.Walker in
    let self = c.args.self.now in
    let seen = m.seen in
    let w = m.world_of self.world in
    assigned-there seen w c.args.id self.legal
    (∥∥₁_map c.requires.own (λ o. own-assigned seen w c.args.id c.args.walk.now o))

pub needs_nothing-requires : goal.needs_nothing-requires
needs_nothing-requires g c =
    let m = g.W.Walker in
    let self = c.args.self.now in
    begun-slot m.seen (m.world_of self.world) self.legal self.indexed c.args.run.now c.args.by
    c.requires.begun c.requires.unfinished

pub returns-then-needs_nothing : goal.returns-then-needs_nothing
returns-then-needs_nothing g c =
    let m = g.W.Walker in
    let self = c.args.self.now in
    free-closes m.seen (m.world_of self.world) self.legal self.indexed c.args.id c.args.run.now
    c.args.by c.requires.begun c.requires.unfinished (λ h. clash c.is_caller.result
    (c.is_caller.ensures h) c.if-not-is_caller.true) (c.needs_nothing.ensures
    c.if-needs_nothing.true)
