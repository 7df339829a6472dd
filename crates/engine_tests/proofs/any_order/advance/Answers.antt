use Rattle.std.proofs.Common.{◌≡◌, Some, All, sym, subst}
use Rattle.std.proofs.lemmas.List.Elements.{All-push}
use Rattle.std.specs.Prelude.{IsSome}
use Rattle.build_scheduler.specs.Learnt.{ArePartOf}
use Rattle.build_scheduler.specs.Position.{answered}
use Rattle.build_plain.proofs.OwnTurns.{
  known-of,
  fits-of,
  turn-of,
  room-of,
  own-of,
  fits-walk,
  fits-world,
}
use Rattle.engine_tests.specs.Trials.{IsAsking}
use Rattle.engine_tests.proofs.Others.{asks-now}
use Rattle.engine_tests.proofs.any_order.advance.Goals as goal

pub go_on-requires-clause-known : goal.go_on-requires-clause-known
go_on-requires-clause-known g c =
    let m = g.W.Walker in
    let core = c.args.core.now in
    let next = c.args.next in
    subst (λ table. ArePartOf (m.seen next.walk).learnt table.finished) (sym c.table.ensures.table)
    (known-of (m.world_of core.world) core.history.events core.table.finished next.id
    (m.seen next.walk) next.answer c.requires.next)

pub go_on-requires-clause-fits : goal.go_on-requires-clause-fits
go_on-requires-clause-fits g c =
    let m = g.W.Walker in
    let core = c.args.core.now in
    let next = c.args.next in
    subst (λ table. IsSome (answered (m.seen next.walk).world table.finished
    (m.seen next.walk).position next.answer)) (sym c.table.ensures.table)
    (fits-of (m.world_of core.world) core.history.events core.table.finished next.id
    (m.seen next.walk) next.answer c.requires.next)

pub go_on-requires-clause-turn : goal.go_on-requires-clause-turn
go_on-requires-clause-turn g c =
    let m = g.W.Walker in
    let core = c.args.core.now in
    let next = c.args.next in
    turn-of (m.world_of core.world) core.history.events core.table.finished next.id
    (m.seen next.walk) next.answer c.requires.next

pub go_on-requires-clause-room : goal.go_on-requires-clause-room
go_on-requires-clause-room g c =
    let m = g.W.Walker in
    let core = c.args.core.now in
    let next = c.args.next in
    room-of (m.world_of core.world) core.history.events core.table.finished next.id
    (m.seen next.walk) next.answer c.requires.next c.event_count-number.ensures.few

pub go_on-requires-clause-place : goal.go_on-requires-clause-place
go_on-requires-clause-place g c =
    let m = g.W.Walker in
    let core = c.args.core.now in
    let next = c.args.next in
    let place = c.args.place.now in
    fits-walk (m.world_of core.world) core.history.events core.table.finished next.id
    (m.seen next.walk) next.answer c.requires.next (m.Fits place) (g.met.W.Walker.fits_once place)
    c.requires.place

pub returns-clause-place : goal.returns-clause-place
returns-clause-place g c =
    let m = g.W.Walker in
    let core = c.args.core.now in
    let next = c.args.next in
    let place = c.go_on.new.place in
    fits-world (m.world_of core.world) core.history.events core.table.finished next.id
    (m.seen next.walk) next.answer c.requires.next (m.Fits place) (g.met.W.Walker.fits_once place)
    c.go_on.ensures.place

pub returns-in_err-ask-clause-place : goal.returns-in_err-ask-clause-place
returns-in_err-ask-clause-place g c =
    let m = g.W.Walker in
    let core = c.args.core.now in
    let next = c.args.next in
    let place = c.go_on.new.place in
    fits-world (m.world_of core.world) core.history.events core.table.finished next.id
    (m.seen next.walk) next.answer c.requires.next (m.Fits place) (g.met.W.Walker.fits_once place)
    c.go_on.ensures.place

pub returns-in_err-push-clause-place : goal.returns-in_err-push-clause-place
returns-in_err-push-clause-place g c =
    let m = g.W.Walker in
    let core = c.args.core.now in
    let next = c.args.next in
    let place = c.go_on.new.place in
    fits-world (m.world_of core.world) core.history.events core.table.finished next.id
    (m.seen next.walk) next.answer c.requires.next (m.Fits place) (g.met.W.Walker.fits_once place)
    c.go_on.ensures.place

pub returns-clause-out : goal.returns-clause-out
returns-clause-out g c =
    let m = g.W.Walker in
    let core = c.args.core.now in
    let next = c.args.next in
    let walk = c.go_on.new.walk in
    let told = c.in_ok-ask.ensures in
    let own = own-of (m.world_of core.world) core.history.events core.table.finished next.id
    (m.seen next.walk) next.answer c.requires.next (m.seen walk) told.world
    (subst (λ table. answered (m.seen next.walk).world table.finished (m.seen next.walk).position
    next.answer ≡ Some (m.seen walk).position) c.table.ensures.table told.goes_on) told.asked
    (subst (λ table. ArePartOf (m.seen walk).learnt table.finished) c.table.ensures.table
    told.known) in
    subst (All (λ a. IsAsking (m.world_of core.world) core.history.events a.id a.number
    (m.seen a.walk) a.ask)) (sym c.in_ok-push.ensures.items)
    (All-push (λ a. IsAsking (m.world_of core.world) core.history.events a.id a.number
    (m.seen a.walk) a.ask) c.args.out.now.items _ c.requires.out (asks-now (m.world_of core.world)
    core.legal next.id c.event_count-number.result (m.seen walk) c.in_ok-ask.ask
    c.event_count-number.ensures.count told.asks own))
