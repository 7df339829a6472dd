use Rattle.std.proofs.Common.{◌≡◌, Some, subst, sym, true}
use Rattle.std.proofs.Math.Bridge.{le_prop}
use Rattle.std.proofs.Math.Logic.{∥∥₁_elim}
use Rattle.std.specs.Prelude.{IfSome, OnSome}
use Rattle.build_meaning.specs.Lists.{at}
use Rattle.build_meaning.specs.Plain.{IsPlain}
use Rattle.build_scheduler.specs.declared.slot.Origin.{Origin}
use Rattle.build_scheduler.specs.Kept.{IsEndOf, MayServe}
use Rattle.build_scheduler.specs.Position.{HasEnded}
use Rattle.build_scheduler.proofs.OverAtOnce.{kept-new, own-there}
use Rattle.build_scheduler.proofs.scheduler.Core.keep.Goals as goal

pub end_of-requires-clause-there : goal.end_of-requires-clause-there
end_of-requires-clause-there g c =
    let m = g.W.Walker in
    let self = c.args.self.now in
    own-there m.seen (m.world_of self.world) self.legal c.args.id c.args.walk.now c.requires.own

pub end_of-requires-clause-asked : goal.end_of-requires-clause-asked
end_of-requires-clause-asked g c = ∥∥₁_elim c.requires.own (λ p q. le_prop p q) (λ o. o.asked)

pub end_of-requires-clause-over : goal.end_of-requires-clause-over
end_of-requires-clause-over g c = subst HasEnded (sym c.requires.asks) tt

pub invariant_of-self : goal.invariant_of-self
invariant_of-self g c =
    let m = g.W.Walker in
    let self = c.args.self.now in
    let seen = m.seen in
    let walk = c.args.walk.now in
    let ensures = c.in_ok-kept.ensures in
    let is = subst (λ o. IfSome o (λ end. IsEndOf seen self.slots.items self.origins.items
    c.args.id walk (m.plain_for walk) c.args.request_result.now end)) c.in-Some.is ensures.is in
    let serves = subst (λ o. OnSome o (MayServe seen self.slots.items self.origins.items self.kept
    c.args.id (m.plain_for walk))) c.in-Some.is ensures.serves in
    let plain = subst (λ o. IfSome o (λ end. end.plain ≡ true → (origin : Origin)
    → at self.origins.items c.args.id ≡ Some origin → IsPlain (m.seen walk).world origin.key))
    c.in-Some.is ensures.plain in
    record {
      legal = self.legal;
      indexed = self.indexed;
      counted = self.counted;
      active = self.active;
      few = self.few;
      nested = self.nested;
      stops = self.stops;
      kept_so = kept-new seen (m.world_of self.world) self.legal self.kept c.put.new.self
          c.args.id walk c.args.request_result.now c.in-Some.kept c.requires.own c.requires.asks
          serves.called is.whose is.result is.stands (λ n. is.nothing.0 n) plain c.put.ensures
          self.kept_so;
      behind = self.behind;
    }

pub returns-in-Some-clause-keeps : goal.returns-in-Some-clause-keeps
returns-in-Some-clause-keeps g c =
    let m = g.W.Walker in
    let self = c.args.self.now in
    let seen = m.seen in
    let walk = c.args.walk.now in
    let ensures = c.in_ok-kept.ensures in
    let is = subst (λ o. IfSome o (λ end. IsEndOf seen self.slots.items self.origins.items
    c.args.id walk (m.plain_for walk) c.args.request_result.now end)) c.in-Some.is ensures.is in
    let serves = subst (λ o. OnSome o (MayServe seen self.slots.items self.origins.items self.kept
    c.args.id (m.plain_for walk))) c.in-Some.is ensures.serves in
    record {
      kept = λ m. (c.in-Some.kept, is, c.put.ensures);
      same = λ n. absurd (n serves);
    }
