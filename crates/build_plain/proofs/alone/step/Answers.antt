use Rattle.std.proofs.Common.{◌≡◌, Some, sym, subst}
use Rattle.std.specs.Prelude.{IsSome}
use Rattle.build_scheduler.specs.Learnt.{ArePartOf}
use Rattle.build_scheduler.specs.Position.{answered}
use Rattle.build_plain.proofs.OwnTurns.{
  known-of,
  fits-of,
  turn-of,
  room-of,
  own-of,
  fits-walk,
  fits-world,
}
use Rattle.build_plain.proofs.Using.{step-uses, unless-wanted}
use Rattle.build_plain.proofs.alone.step.Goals as goal

pub go_on-requires-clause-known : goal.go_on-requires-clause-known
go_on-requires-clause-known g c =
    let m = g.W.Walker in
    let core = c.args.core.now in
    subst (λ table. ArePartOf (m.seen c.args.walk).learnt table.finished)
    (sym c.table.ensures.table) (known-of (m.world_of core.world) core.history.events
    core.table.finished c.args.id (m.seen c.args.walk) c.args.answer c.requires.out)

pub go_on-requires-clause-fits : goal.go_on-requires-clause-fits
go_on-requires-clause-fits g c =
    let m = g.W.Walker in
    let core = c.args.core.now in
    subst (λ table. IsSome (answered (m.seen c.args.walk).world table.finished
    (m.seen c.args.walk).position c.args.answer)) (sym c.table.ensures.table)
    (fits-of (m.world_of core.world) core.history.events core.table.finished c.args.id
    (m.seen c.args.walk) c.args.answer c.requires.out)

pub go_on-requires-clause-turn : goal.go_on-requires-clause-turn
go_on-requires-clause-turn g c =
    let m = g.W.Walker in
    let core = c.args.core.now in
    turn-of (m.world_of core.world) core.history.events core.table.finished c.args.id
    (m.seen c.args.walk) c.args.answer c.requires.out

pub go_on-requires-clause-room : goal.go_on-requires-clause-room
go_on-requires-clause-room g c =
    let m = g.W.Walker in
    let core = c.args.core.now in
    room-of (m.world_of core.world) core.history.events core.table.finished c.args.id
    (m.seen c.args.walk) c.args.answer c.requires.out c.few_events.ensures

pub go_on-requires-clause-place : goal.go_on-requires-clause-place
go_on-requires-clause-place g c =
    let m = g.W.Walker in
    let core = c.args.core.now in
    let place = c.args.place.now in
    fits-walk (m.world_of core.world) core.history.events core.table.finished c.args.id
    (m.seen c.args.walk) c.args.answer c.requires.out (m.Fits place) (g.met.W.Walker.fits_once
    place) c.requires.place

pub answer_ask-requires-clause-own : goal.answer_ask-requires-clause-own
answer_ask-requires-clause-own g c =
    let m = g.W.Walker in
    let core = c.args.core.now in
    own-of (m.world_of core.world) core.history.events core.table.finished c.args.id
    (m.seen c.args.walk) c.args.answer c.requires.out (m.seen c.go_on.new.walk)
    c.in-Ok.ensures.world (subst (λ table. answered (m.seen c.args.walk).world table.finished
    (m.seen c.args.walk).position c.args.answer ≡ Some (m.seen c.go_on.new.walk).position)
    c.table.ensures.table c.in-Ok.ensures.goes_on) c.in-Ok.ensures.asked
    (subst (λ table. ArePartOf (m.seen c.go_on.new.walk).learnt table.finished)
    c.table.ensures.table c.in-Ok.ensures.known)

pub returns-in-Ok-clause-place : goal.returns-in-Ok-clause-place
returns-in-Ok-clause-place g c =
    let m = g.W.Walker in
    let core = c.args.core.now in
    let place = c.go_on.new.place in
    fits-world (m.world_of core.world) core.history.events core.table.finished c.args.id
    (m.seen c.args.walk) c.args.answer c.requires.out (m.Fits place) (g.met.W.Walker.fits_once
    place) c.go_on.ensures.place

pub returns-clause-place : goal.returns-clause-place
returns-clause-place g c =
    let m = g.W.Walker in
    let core = c.args.core.now in
    let place = c.go_on.new.place in
    fits-world (m.world_of core.world) core.history.events core.table.finished c.args.id
    (m.seen c.args.walk) c.args.answer c.requires.out (m.Fits place) (g.met.W.Walker.fits_once
    place) c.go_on.ensures.place

pub returns-in-Ok-clause-uses : goal.returns-in-Ok-clause-uses
returns-in-Ok-clause-uses g c =
    let m = g.W.Walker in
    let core = c.args.core.now in
    let after = c.answer_ask.new.core in
    let seen = m.seen in
    step-uses seen (m.world_of core.world) core.history.events after.history.events
    core.table.finished after.table.finished c.args.id c.args.walk c.go_on.new.walk c.args.answer
    c.answer_ask.result after.end (m.used c.args.place.now) (m.used c.go_on.new.place)
    c.requires.out (subst (λ table. answered (m.seen c.args.walk).world table.finished
    (m.seen c.args.walk).position c.args.answer ≡ Some (m.seen c.go_on.new.walk).position)
    c.table.ensures.table c.in-Ok.ensures.goes_on) c.in-Ok.ensures.used c.answer_ask.ensures.uses

pub returns-clause-uses : goal.returns-clause-uses
returns-clause-uses g c = unless-wanted c.stop.new.core.end _ c.stop.ensures.end
