use Rattle.std.proofs.Common.{refl, sym, subst, map, arith}
use Rattle.std.proofs.Math.Logic.{∥∥₁_map}
use Rattle.build_scheduler.specs.Instances.{AreCounted, instance_asked}
use Rattle.build_scheduler.specs.Shown.{AreNested}
use Rattle.build_scheduler.proofs.Behind.{behind-same}
use Rattle.build_scheduler.proofs.HistoryRoom.{active-same}
use Rattle.build_scheduler.proofs.Repeating.{kept-alike}
use Rattle.build_scheduler.proofs.Rooms.{
  room-kept,
  room-shown,
  room-indexed,
  room-stops,
  same-numbers,
  spare-of,
  unready-room,
}
use Rattle.build_scheduler.proofs.scheduler.Core.take_room.Goals as goal

pub invariant_of-self : goal.invariant_of-self
invariant_of-self g c =
    let m = g.W.Walker in
    let self = c.args.self.now in
    let seen = m.seen in
    let w = m.world_of self.world in
    let r = c.reserve_all.ensures in
    record {
      legal = ∥∥₁_map self.legal (λ x.
          room-shown seen w refl (omega arith) r.origins r.slots r.making x);
      indexed = ∥∥₁_map self.indexed (λ x.
          room-indexed r.slots refl (omega arith) (same-numbers r.waiting) x);
      counted = subst (λ os. ∥ AreCounted self.instances (map instance_asked os) ∥₁)
          (sym r.origins) self.counted;
      active = self.active;
      few = self.few;
      nested = subst (λ os. ∥ AreNested os ∥₁) (sym r.origins) self.nested;
      stops = self.stops;
      kept_so = kept-alike seen w refl r.origins refl self.kept_so;
      behind = behind-same seen w {events = self.history.events} refl r.slots self.behind;
    }

pub invariant_of-self-in-Break-branch-3 : goal.invariant_of-self-in-Break-branch-3
invariant_of-self-in-Break-branch-3 g c =
    let m = g.W.Walker in
    let self = c.args.self.now in
    let seen = m.seen in
    let w = m.world_of self.world in
    let r = c.reserve_all.ensures in
    record {
      legal = ∥∥₁_map self.legal (λ x.
          room-shown seen w refl (omega arith) r.origins r.slots r.making x);
      indexed = ∥∥₁_map self.indexed (λ x.
          room-indexed r.slots c.reserve.ensures.numbers
          (omega (arith, c.in_err-reserve.ensures.err)) (same-numbers r.waiting) x);
      counted = subst (λ os. ∥ AreCounted self.instances (map instance_asked os) ∥₁)
          (sym r.origins) self.counted;
      active = self.active;
      few = self.few;
      nested = subst (λ os. ∥ AreNested os ∥₁) (sym r.origins) self.nested;
      stops = self.stops;
      kept_so = kept-alike seen w refl r.origins refl self.kept_so;
      behind = behind-same seen w {events = self.history.events} refl r.slots self.behind;
    }

pub invariant_of-self-in-Break-branch-4 : goal.invariant_of-self-in-Break-branch-4
invariant_of-self-in-Break-branch-4 g c =
    let m = g.W.Walker in
    let self = c.args.self.now in
    let seen = m.seen in
    let w = m.world_of self.world in
    let r = c.reserve_all.ensures in
    record {
      legal = ∥∥₁_map self.legal (λ x.
          room-shown seen w refl (omega arith) r.origins r.slots r.making x);
      indexed = ∥∥₁_map self.indexed (λ x.
          room-indexed r.slots c.reserve.ensures.numbers
          (omega (arith, c.in_ok-reserve.ensures.ok)) (same-numbers r.waiting) x);
      counted = subst (λ os. ∥ AreCounted self.instances (map instance_asked os) ∥₁)
          (sym r.origins) self.counted;
      active = self.active;
      few = self.few;
      nested = subst (λ os. ∥ AreNested os ∥₁) (sym r.origins) self.nested;
      stops = self.stops;
      kept_so = kept-alike seen w refl r.origins c.reserve-2.ensures.instances self.kept_so;
      behind = behind-same seen w {events = self.history.events} refl r.slots self.behind;
    }

pub invariant_of-self-2 : goal.invariant_of-self-2
invariant_of-self-2 g c =
    let m = g.W.Walker in
    let self = c.args.self.now in
    let seen = m.seen in
    let w = m.world_of self.world in
    let r = c.reserve_all.ensures in
    record {
      legal = ∥∥₁_map self.legal (λ x.
          room-shown seen w c.reserve-3.ensures.events
          (room-kept c.reserve-3.result self.history.room c.reserve-3.new.self.room
          c.in_ok-events.events c.reserve-3.ensures.ok c.reserve-3.ensures.err) r.origins r.slots
          r.making x);
      indexed = ∥∥₁_map self.indexed (λ x.
          room-indexed r.slots c.reserve.ensures.numbers
          (omega (arith, c.in_ok-reserve.ensures.ok)) (same-numbers r.waiting) x);
      counted = subst (λ os. ∥ AreCounted self.instances (map instance_asked os) ∥₁)
          (sym r.origins) self.counted;
      active = active-same self.history.events self.history.nodes c.reserve-3.ensures.events
          c.reserve-3.ensures.nodes self.active;
      few = self.few;
      nested = subst (λ os. ∥ AreNested os ∥₁) (sym r.origins) self.nested;
      stops = room-stops w self.end c.reserve-3.ensures.events self.stops;
      kept_so = kept-alike seen w refl r.origins c.reserve-2.ensures.instances self.kept_so;
      behind = behind-same seen w c.reserve-3.ensures.events r.slots self.behind;
    }

pub returns-clause-ready_room : goal.returns-clause-ready_room
returns-clause-ready_room g c = unready-room c.args.count c.reserve.new.self.room
    c.reserve_all.ensures.slots c.in_ok-reserve.ensures.ok c.args.self.now.indexed

pub returns-clause-spare : goal.returns-clause-spare
returns-clause-spare g c =
    let m = g.W.Walker in
    let self = c.args.self.now in
    let seen = m.seen in
    let w = m.world_of self.world in
    ∥∥₁_map self.legal (λ x. spare-of seen w c.reserve-3.ensures.events c.args.count
    c.in_ok-events.events c.in_ok-reserve-3.ensures.ok c.in_ok-events.ensures x)
