use Rattle.std.proofs.Math.Bridge.{le_prop}
use Rattle.std.proofs.Math.Logic.{∥∥₁_elim, ∥∥₁_map}
use Rattle.build_scheduler.proofs.HistoryFacts.{some-prop}
use Rattle.build_nodes.specs.Turns.{IsAnswered}
use Rattle.build_nodes.proofs.Away.{
  answer-fits,
  answer-in-room,
  asks-next,
  refused-again,
  turn-prop,
}
use Rattle.build_nodes.proofs.Fitting.{fits-seat, fits-walk}
use Rattle.build_nodes.proofs.Turning.{of-some, and-some}
use Rattle.build_nodes.proofs.nodes.advance.Goals as goal

pub advance-requires-clause-fits : goal.advance-requires-clause-fits
advance-requires-clause-fits g c =
    let m = g.W.Walker in
    let seen = m.seen in
    let seat = c.args.node.now.seat in
    let a = c.args.answered in
    let k = of-some seat.world
    (λ first.
    ∥ IsAnswered seen m.earlier c.args.node.now.number (m.world_of first.world) seat.seen a ∥₁)
    c.requires.answered in
    ∥∥₁_elim k.2 (some-prop _)
    (λ k. answer-fits seen m.earlier c.args.node.now.number _ seat.seen a k)

pub advance-requires-clause-turn : goal.advance-requires-clause-turn
advance-requires-clause-turn g c =
    let m = g.W.Walker in
    let seen = m.seen in
    let seat = c.args.node.now.seat in
    let a = c.args.answered in
    let k = of-some seat.world
    (λ first.
    ∥ IsAnswered seen m.earlier c.args.node.now.number (m.world_of first.world) seat.seen a ∥₁)
    c.requires.answered in
    ∥∥₁_elim k.2 (turn-prop _ _) (λ k. k.out.turn)

pub advance-requires-clause-room : goal.advance-requires-clause-room
advance-requires-clause-room g c =
    let m = g.W.Walker in
    let seen = m.seen in
    let seat = c.args.node.now.seat in
    let a = c.args.answered in
    let k = of-some seat.world
    (λ first.
    ∥ IsAnswered seen m.earlier c.args.node.now.number (m.world_of first.world) seat.seen a ∥₁)
    c.requires.answered in
    ∥∥₁_elim k.2 (λ p q. le_prop p q)
    (λ k. answer-in-room seen m.earlier c.args.node.now.number _ seat.seen a k)

pub advance-requires-clause-place : goal.advance-requires-clause-place
advance-requires-clause-place g c =
    let m = g.W.Walker in
    let laws =
    g.met.W.Walker g.world.𝓛 g.world.𝓜 g.world.𝓡 ((λ s x. x), (λ x. x), (λ x. x), λ x. x) in
    let node = c.args.node.now in
    fits-walk m.Fits laws.fits_once (λ first. m.world_of first.world) m.seen m.earlier node.number
    node.seat.world node.seat.seen c.args.answered c.requires.answered node.place node.fits

pub invariant_of-node : goal.invariant_of-node
invariant_of-node g c =
    let m = g.W.Walker in
    let laws =
    g.met.W.Walker g.world.𝓛 g.world.𝓜 g.world.𝓡 ((λ s x. x), (λ x. x), (λ x. x), λ x. x) in
    let node = c.args.node.now in
    record {
      fits =
          fits-seat m.Fits laws.fits_once (λ first. m.world_of first.world) m.seen m.earlier
          node.number node.seat.world node.seat.seen c.args.answered c.requires.answered
          c.advance.new.place c.advance.ensures.place;
    }

pub returns-in-Ok-clause-brought : goal.returns-in-Ok-clause-brought
returns-in-Ok-clause-brought g c =
    let m = g.W.Walker in
    let seen = m.seen in
    let seat = c.args.node.now.seat in
    let a = c.args.answered in
    let told = c.in-Ok.ensures in
    and-some seat.world
    (λ first.
    ∥ IsAnswered seen m.earlier c.args.node.now.number (m.world_of first.world) seat.seen a ∥₁)
    _
    (λ first k.
    ∥∥₁_map k
    (λ k. asks-next seen m.earlier c.args.node.now.number (m.world_of first.world) seat.seen a
    c.advance.new.self c.in-Ok.ask k told.asks told.goes_on told.asked told.world told.learnt
    told.earlier)) c.requires.answered

pub returns-in-Err-clause-brought : goal.returns-in-Err-clause-brought
returns-in-Err-clause-brought g c =
    let m = g.W.Walker in
    let seen = m.seen in
    let number = c.args.node.now.number in
    let seat = c.args.node.now.seat in
    let a = c.args.answered in
    let told = c.in-Err.ensures in
    and-some seat.world
    (λ first. ∥ IsAnswered seen m.earlier number (m.world_of first.world) seat.seen a ∥₁) _
    (λ first k.
    ∥∥₁_map k
    (λ k. refused-again seen m.earlier number (m.world_of first.world) seat.seen a
    c.advance.new.self k told.world told.stays told.asked_err told.learnt)) c.requires.answered
