use Rattle.std.proofs.Common.{refl, ap, sym, subst}
use Rattle.build_meaning.specs.declared.event.Event.TheVariants.{Assign}
use Rattle.build_scheduler.specs.Own.{IsOut}
use Rattle.build_plain.specs.Driven.{OnlyAssigned}
use Rattle.build_plain.specs.Used.{due}
use Rattle.build_plain.proofs.OneAtATime.{legal-of, one-assigned}
use Rattle.build_plain.proofs.Using.{ready-uses, turn-uses}
use Rattle.build_plain.proofs.alone.hand_out.Goals as goal

pub work-requires-clause-only : goal.work-requires-clause-only
work-requires-clause-only g c =
    let m = g.W.Walker in
    let core = c.args.core.now in
    let after = c.assign-walk.new.self in
    subst (λ w. OnlyAssigned w after.history.events c.args.id) (sym c.assign-walk.ensures.world)
    (one-assigned (m.world_of core.world) core.history.events after.history.events
    (Assign c.args.id 0) (legal-of m.seen (m.world_of core.world) core.legal)
    c.assign-walk.ensures.history c.args.id refl c.requires.free)

pub work-requires-clause-place : goal.work-requires-clause-place
work-requires-clause-place g c =
    subst (g.W.Walker.Fits c.args.place.now) (sym c.assign-walk.ensures.world) c.requires.place

pub returns-clause-place : goal.returns-clause-place
returns-clause-place g c =
    subst (g.W.Walker.Fits c.work.new.place) c.assign-walk.ensures.world c.work.ensures.place

pub returns-clause-uses : goal.returns-clause-uses
returns-clause-uses g c first =
    let m = g.W.Walker in
    let core = c.args.core.now in
    let mid = c.assign-walk.new.self in
    let after = c.work.new.core in
    let seen = m.seen in
    let w = m.world_of core.world in
    let walk = c.assign-walk.result.0 in
    let answer = c.assign-walk.result.1 in
    let same = c.assign-walk.ensures.world in
    let out = subst (λ v. ∥ IsOut v mid.history.events mid.table.finished c.args.id (seen walk)
    answer ∥₁) same c.assign-walk.ensures.out in
    let handed = ready-uses w core.history.events mid.history.events (Assign c.args.id 0) c.args.id
    mid.table.finished (seen walk) answer refl (λ a. a) c.assign-walk.ensures.history first
    (legal-of seen w core.legal) c.assign-walk.ensures.behind out in
    turn-uses w (m.world_of mid.world) core.history.events mid.history.events after.history.events
    (m.used c.args.place.now) (due w mid.table.finished (seen walk) answer)
    (m.used c.work.new.place) after.end
    (due (m.world_of mid.world) mid.table.finished (seen walk) answer) same
    (ap (λ v. due v mid.table.finished (seen walk) answer) same) handed c.work.ensures.uses
