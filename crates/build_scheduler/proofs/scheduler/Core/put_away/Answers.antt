use Rattle.std.proofs.Common.{◌∷◌, ◌++◌, [], refl, sym, ◌∙◌, ap, arith}
use Rattle.std.proofs.Math.Logic.{∥∥₁_elim, ∥∥₁_map, ∥∥₁_map₂, ∥∥₁_prop}
use Rattle.build_meaning.specs.declared.event.Event.TheVariants.{Claim}
use Rattle.build_meaning.specs.declared.event.ClaimKind.TheVariants.{Wait}
use Rattle.build_scheduler.specs.declared.slot.Slot.TheVariants.{Waiting}
use Rattle.build_scheduler.proofs.Behind.{behind-event, behind-same, kept-put}
use Rattle.build_scheduler.proofs.Entering.{slot-there}
use Rattle.build_scheduler.proofs.OwnWalks.{there-of}
use Rattle.build_scheduler.proofs.HistoryRoom.{active-same}
use Rattle.build_scheduler.proofs.Rooms.{room-shown, room-indexed, room-stops}
use Rattle.build_scheduler.proofs.Stopping.{none-stops}
use Rattle.build_scheduler.proofs.Waiting.{begun-there, unlisted, waited-shown, waits-indexed}
use Rattle.build_scheduler.proofs.scheduler.Core.put_away.Goals as goal

pub wait_room-requires : goal.wait_room-requires
wait_room-requires g c =
    let m = g.W.Walker in
    let self = c.args.self.now in
    begun-there m.seen (m.world_of self.world) c.args.run.now c.args.by self.legal self.indexed
    c.requires.begun c.requires.unfinished

pub list_waiting-requires-clause-absent : goal.list_waiting-requires-clause-absent
list_waiting-requires-clause-absent g c =
    let m = g.W.Walker in
    let self = c.args.self.now in
    unlisted m.seen (m.world_of self.world) c.args.id c.args.walk c.args.by self.legal self.indexed
    c.requires.own c.wait_room.ensures.same

pub put_slot-requires : goal.put_slot-requires
put_slot-requires g c =
    let m = g.W.Walker in
    let self = c.args.self.now in
    slot-there m.seen (m.world_of self.world) c.args.id c.args.walk self.legal c.requires.own

pub invariant_of-self : goal.invariant_of-self
invariant_of-self g c =
    let m = g.W.Walker in
    let self = c.args.self.now in
    let seen = m.seen in
    let w = m.world_of self.world in
    let legal = ∥∥₁_map₂ self.legal c.requires.own
    (λ x o. waited-shown seen w self.history c.push.new.self c.args.id c.args.walk
    c.args.run.now c.args.by o c.requires.asks c.requires.unfinished c.requires.begun
    c.requires.open
    (c.push.ensures.events
    ∙ (ap (λ es. es ++ Claim c.args.id c.in-Ok.claimed Wait ∷ []) c.in-Ok.ensures.events
    ∙ ap (λ r. self.history.events ++ Claim c.args.id r Wait ∷ []) c.in-Ok.ensures.run))
    (sym c.in-Ok.ensures.ok ∙ c.push.ensures.room) c.put_slot.ensures x) in
    record {
      legal = legal;
      indexed = ∥∥₁_elim self.legal ∥∥₁_prop
          (λ x. ∥∥₁_elim c.requires.own ∥∥₁_prop (λ o. ∥∥₁_map self.indexed (λ y. waits-indexed
          c.args.id c.args.walk c.args.by (there-of seen w x c.args.id (m.seen c.args.walk).position
          o.stands).node (there-of seen w x c.args.id (m.seen c.args.walk).position
          o.stands).at_slots c.wait_room.ensures.same c.list_waiting.ensures c.put_slot.ensures
          y)));
      counted = self.counted;
      active = c.push.ensures.active;
      few = self.few;
      nested = self.nested;
      stops = ∣ none-stops w _ c.requires.running ∣₁;
      kept_so = self.kept_so;
      behind = behind-event seen w (Claim c.args.id c.args.run.now Wait) self.legal legal
          (c.push.ensures.events
          ∙ (ap (λ es. es ++ Claim c.args.id c.in-Ok.claimed Wait ∷ []) c.in-Ok.ensures.events
          ∙ ap (λ r. self.history.events ++ Claim c.args.id r Wait ∷ []) c.in-Ok.ensures.run))
          (kept-put self.slots.items (Waiting c.args.walk c.args.by) c.put_slot.ensures)
          self.behind;
    }

pub invariant_of-self-in-Err : goal.invariant_of-self-in-Err
invariant_of-self-in-Err g c =
    let m = g.W.Walker in
    let self = c.args.self.now in
    let seen = m.seen in
    let w = m.world_of self.world in
    record {
      legal = ∥∥₁_map self.legal
          (λ x. room-shown seen w c.wait_room.ensures.events c.wait_room.ensures.room refl refl refl
          x);
      indexed = ∥∥₁_map self.indexed
          (λ y. room-indexed refl refl (omega arith) c.wait_room.ensures.same y);
      counted = self.counted;
      active = active-same self.history.events self.history.nodes c.wait_room.ensures.events
          c.wait_room.ensures.nodes self.active;
      few = self.few;
      nested = self.nested;
      stops = room-stops w self.end c.wait_room.ensures.events self.stops;
      kept_so = self.kept_so;
      behind = behind-same seen w c.wait_room.ensures.events refl self.behind;
    }
