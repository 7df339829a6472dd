use Rattle.std.proofs.Common.{
  ◌∙◌,
  ◌∷◌,
  ◌++◌,
  Global,
  List,
  Vec,
  ap,
  arith,
  length,
  refl,
  subst,
  sym,
}
use Rattle.std.proofs.Math.Logic.{∥∥₁_map}
use Rattle.result_cache.specs.declared.request.RequestResult.{RequestResult}
use Rattle.result_cache.specs.declared.run.RunId.{RunId}
use Rattle.build_meaning.specs.declared.event.Event.{Event}
use Rattle.build_meaning.specs.declared.event.Event.TheVariants.{Assign}
use Rattle.build_history.specs.Repeated.{uses_of_all}
use Rattle.build_scheduler.specs.declared.walker.Ask.TheVariants.{Done as IsOver}
use Rattle.build_scheduler.specs.Kept.{EndsAlike, repeats}
use Rattle.build_scheduler.specs.Own.{Asks, IsOwn}
use Rattle.build_scheduler.proofs.Behind.{behind-same}
use Rattle.build_scheduler.proofs.HistoryRoom.{active-same}
use Rattle.build_scheduler.proofs.OverAtOnce.{
  all-events,
  ends-now,
  other-request,
  over-asks,
  over-own,
  repeats-so,
}
use Rattle.build_scheduler.proofs.Rooms.{room-kept, room-shown}
use Rattle.build_scheduler.proofs.Stopping.{none-stops}
use Rattle.build_scheduler.proofs.scheduler.Core.end_at_once.Goals as goal

pub invariant_of-self : goal.invariant_of-self
invariant_of-self g c =
    let m = g.W.Walker in
    let self = c.args.self.now in
    record {
      legal = ∥∥₁_map self.legal (λ x. room-shown m.seen
          (m.world_of self.world) c.reserve.ensures.events (room-kept c.reserve.result
          self.history.room c.reserve.new.self.room c.len.result c.reserve.ensures.ok
          c.reserve.ensures.err) refl refl refl x);
      indexed = self.indexed;
      counted = self.counted;
      active = active-same self.history.events self.history.nodes c.reserve.ensures.events
          c.reserve.ensures.nodes self.active;
      few = self.few;
      nested = self.nested;
      stops = ∣ none-stops (m.world_of self.world) _ c.requires.running ∣₁;
      kept_so = self.kept_so;
      behind = behind-same m.seen (m.world_of self.world)
          c.reserve.ensures.events refl self.behind;
    }

pub use_all-before-requires-clause-ends : goal.use_all-before-requires-clause-ends
use_all-before-requires-clause-ends g c =
    let m = g.W.Walker in
    let self = c.args.self.now in
    let seen = m.seen in
    let w = m.world_of self.world in
    let claims = ap (λ (v : Vec RunId Global). v.items) c.parts-claims.ensures.claims in
    let count = ap (λ (v : Vec RunId Global). length v.items) c.parts-claims.ensures.claims in
    subst (λ (runs : List RunId). ∥ EndsAlike w c.reserve.new.self c.args.id c.args.node runs ∥₁)
    (sym claims) (ends-now seen w self.history.events self.table.finished c.args.id c.args.node
    c.args.end c.requires.comes c.reserve.new.self self.legal refl c.reserve.ensures.events
    (omega (
      arith,
      c.in_ok-reserve.ensures.ok,
      c.len.ensures,
      c.parts-claims.result.0.ok.0,
      count,
    )))

pub finish_request-left-requires-clause-own : goal.finish_request-left-requires-clause-own
finish_request-left-requires-clause-own g c =
    let m = g.W.Walker in
    let self = c.args.self.now in
    let next = c.use_all-before.new.self in
    let seen = m.seen in
    let w = m.world_of self.world in
    let claims = ap (λ (v : Vec RunId Global). v.items) c.parts-claims.ensures.claims in
    let is = c.use_all-before.ensures.history
    ∙ (ap (λ (es : List Event). es ++ Assign c.args.id c.args.node
    ∷ uses_of_all c.args.id c.parts-claims.result.0.items) c.reserve.ensures.events
    ∙ ap (λ (runs : List RunId). self.history.events ++ Assign c.args.id c.args.node
    ∷ uses_of_all c.args.id runs) claims) in
    subst (λ w. ∥ IsOwn w next.history.events next.table.finished c.args.id
    (seen c.parts-claims.result.2) ∥₁) (sym c.use_all-before.ensures.world)
    (subst (λ v. ∥ IsOwn w next.history.events next.table.finished c.args.id (seen v) ∥₁)
    (sym c.parts-claims.ensures.walk)
    (over-own seen w self.history.events self.table.finished c.args.id c.args.node c.args.end
    c.requires.comes next.history.events next.table.finished is))

pub finish_request-left-requires-clause-asks : goal.finish_request-left-requires-clause-asks
finish_request-left-requires-clause-asks g c =
    let m = g.W.Walker in
    let self = c.args.self.now in
    let next = c.use_all-before.new.self in
    let seen = m.seen in
    let w = m.world_of self.world in
    let claims = ap (λ (v : Vec RunId Global). v.items) c.parts-claims.ensures.claims in
    let is = c.use_all-before.ensures.history
    ∙ (ap (λ (es : List Event). es ++ Assign c.args.id c.args.node
    ∷ uses_of_all c.args.id c.parts-claims.result.0.items) c.reserve.ensures.events
    ∙ ap (λ (runs : List RunId). self.history.events ++ Assign c.args.id c.args.node
    ∷ uses_of_all c.args.id runs) claims) in
    subst (λ w. ∥ Asks w next.history.events c.args.id (IsOver c.parts-claims.result.1) ∥₁)
    (sym c.use_all-before.ensures.world)
    (subst (λ (told : RequestResult). ∥ Asks w next.history.events c.args.id (IsOver told) ∥₁)
    (sym c.parts-claims.ensures.told)
    (over-asks seen w self.history.events self.table.finished c.args.id c.args.node c.args.end
    c.requires.comes next.history.events is))

pub returns-clause-end : goal.returns-clause-end
returns-clause-end g c =
    let m = g.W.Walker in
    let self = c.args.self.now in
    c.finish_request-left.ensures.others
    (other-request m.seen (m.world_of self.world) self.history.events
    self.table.finished c.args.id c.args.node c.args.end c.requires.comes) ∙ sym c.requires.running

pub returns-clause-repeated : goal.returns-clause-repeated
returns-clause-repeated g c =
    let m = g.W.Walker in
    let self = c.args.self.now in
    let claims = ap (λ (v : Vec RunId Global). v.items) c.parts-claims.ensures.claims in
    repeats-so m.seen (m.world_of self.world) self.history.events self.table.finished c.args.id
    c.args.node c.args.end c.requires.comes c.finish_request-left.new.self.history.events
    (all-events self.history.events c.reserve.new.self.events
    c.use_all-before.new.self.history.events c.finish_request-left.new.self.history.events c.args.id
    c.args.node c.parts-claims.result.0.items c.reserve.ensures.events
    c.use_all-before.ensures.history c.finish_request-left.ensures.history
    ∙ ap (λ (runs : List RunId).
    self.history.events ++ repeats c.args.id c.args.node runs) claims)

pub invariant_of-self-2 : goal.invariant_of-self-2
invariant_of-self-2 g c =
    let self = c.finish_request-left.new.self in
    record {
      legal = self.legal;
      indexed = self.indexed;
      counted = self.counted;
      active = self.active;
      few = self.few;
      nested = self.nested;
      stops = self.stops;
      kept_so = self.kept_so;
      behind = self.behind;
    }
