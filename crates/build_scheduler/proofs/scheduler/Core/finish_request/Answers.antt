use Rattle.std.proofs.Common.{refl, ◌∙◌}
use Rattle.std.proofs.Math.Logic.{∥∥₁_map}
use Rattle.build_meaning.specs.declared.event.Event.TheVariants.{Done}
use Rattle.build_scheduler.specs.declared.slot.Slot.TheVariants.{Done as Over}
use Rattle.build_scheduler.proofs.Behind.{behind-event, kept-put, kept-resumed}
use Rattle.build_scheduler.proofs.Ending.{
  over-room,
  over-slot,
  over-there,
  root-zero,
  called-other-than_root,
  caller-open,
  caller-unlisted,
  ended-shown,
  resumed-shown,
  over-indexed,
}
use Rattle.build_scheduler.proofs.Passing.{asks-same}
use Rattle.build_scheduler.proofs.Repeating.{kept-fewer}
use Rattle.build_scheduler.proofs.SlotNumbers.{resumed-indexed}
use Rattle.build_scheduler.proofs.Stopping.{none-stops}
use Rattle.build_scheduler.proofs.scheduler.Core.finish_request.Goals as goal

pub give_journal-left-requires-clause-over : goal.give_journal-left-requires-clause-over
give_journal-left-requires-clause-over g c = ∥∥₁_map c.requires.asks
    (λ a. (c.args.request_result, a))

pub push-requires-clause-room : goal.push-requires-clause-room
push-requires-clause-room g c =
    let m = g.W.Walker in
    let self = c.give_journal-left.new.self in
    let asks = asks-same c.args.id c.args.request_result c.give_journal-left.ensures.world
    c.give_journal-left.ensures.history c.requires.asks in
    over-room m.seen (m.world_of self.world) c.args.id c.args.request_result self.legal asks

pub put_slot-requires : goal.put_slot-requires
put_slot-requires g c =
    let m = g.W.Walker in
    let self = c.give_journal-left.new.self in
    let asks = asks-same c.args.id c.args.request_result c.give_journal-left.ensures.world
    c.give_journal-left.ensures.history c.requires.asks in
    over-slot m.seen (m.world_of self.world) c.args.id c.args.request_result self.legal asks

pub parent_of-requires : goal.parent_of-requires
parent_of-requires g c =
    let m = g.W.Walker in
    let self = c.give_journal-left.new.self in
    let asks = asks-same c.args.id c.args.request_result c.give_journal-left.ensures.world
    c.give_journal-left.ensures.history c.requires.asks in
    over-there m.seen (m.world_of self.world) c.args.id c.args.request_result self.legal asks

pub invariant_of-self : goal.invariant_of-self
invariant_of-self g c =
    let m = g.W.Walker in
    let self = c.give_journal-left.new.self in
    let asks = asks-same c.args.id c.args.request_result c.give_journal-left.ensures.world
    c.give_journal-left.ensures.history c.requires.asks in
    let legal = ended-shown m.seen (m.world_of self.world) c.args.id c.args.request_result
    self.legal asks
    c.in-None.ensures c.push.ensures.events c.push.ensures.room c.put_slot.ensures refl in
    record {
      legal = legal;
      indexed =
          over-indexed m.seen (m.world_of self.world) c.args.id c.args.request_result self.legal
          asks
          c.put_slot.ensures self.indexed;
      counted = self.counted;
      active = c.push.ensures.active;
      few = self.few;
      nested = self.nested;
      stops = ∣ tt ∣₁;
      kept_so = ∥∥₁_map self.kept_so (kept-fewer m.seen
          (m.world_of self.world) self.table.finished self.origins.items self.kept.instances.items
          c.count_done-end.new.self.instances.items c.count_done-end.ensures);
      behind = behind-event m.seen (m.world_of self.world)
          (Done c.args.id) self.legal legal c.push.ensures.events
          (kept-put self.slots.items Over c.put_slot.ensures) self.behind;
    }

pub resume-requires-clause-calls : goal.resume-requires-clause-calls
resume-requires-clause-calls g c =
    let m = g.W.Walker in
    let self = c.give_journal-left.new.self in
    let asks = asks-same c.args.id c.args.request_result c.give_journal-left.ensures.world
    c.give_journal-left.ensures.history c.requires.asks in
    caller-open m.seen (m.world_of self.world) c.args.id c.args.request_result self.legal asks
    c.in-Some.caller c.in-Some.ensures c.put_slot.ensures

pub resume-requires-clause-absent : goal.resume-requires-clause-absent
resume-requires-clause-absent g c =
    let m = g.W.Walker in
    let self = c.give_journal-left.new.self in
    let asks = asks-same c.args.id c.args.request_result c.give_journal-left.ensures.world
    c.give_journal-left.ensures.history c.requires.asks in
    (caller-unlisted m.seen (m.world_of self.world) c.args.id c.args.request_result self.legal asks
    c.in-Some.caller c.in-Some.ensures self.indexed).0

pub resume-requires-clause-room : goal.resume-requires-clause-room
resume-requires-clause-room g c =
    let m = g.W.Walker in
    let self = c.give_journal-left.new.self in
    let asks = asks-same c.args.id c.args.request_result c.give_journal-left.ensures.world
    c.give_journal-left.ensures.history c.requires.asks in
    (caller-unlisted m.seen (m.world_of self.world) c.args.id c.args.request_result self.legal asks
    c.in-Some.caller c.in-Some.ensures self.indexed).1

pub invariant_of-self-in-Some : goal.invariant_of-self-in-Some
invariant_of-self-in-Some g c =
    let m = g.W.Walker in
    let self = c.give_journal-left.new.self in
    let asks = asks-same c.args.id c.args.request_result c.give_journal-left.ensures.world
    c.give_journal-left.ensures.history c.requires.asks in
    let running = c.give_journal-left.ensures.end ∙ c.requires.running in
    let legal = resumed-shown m.seen (m.world_of self.world) c.args.id c.args.request_result
    self.legal asks
    c.in-Some.caller c.in-Some.ensures running c.push.ensures.events c.push.ensures.room
    c.put_slot.ensures c.resume.ensures in
    record {
      legal = legal;
      indexed =
          ∥∥₁_map
          (over-indexed m.seen (m.world_of self.world) c.args.id c.args.request_result
          self.legal asks
          c.put_slot.ensures self.indexed) (λ x. resumed-indexed c.put_slot.new.slots.items
          c.resume.new.slots.items self.ready c.resume.new.ready self.waiting.items c.in-Some.caller
          c.args.id c.args.request_result c.resume.ensures x);
      counted = self.counted;
      active = c.push.ensures.active;
      few = self.few;
      nested = self.nested;
      stops = ∣ none-stops (m.world_of self.world) _ running ∣₁;
      kept_so = ∥∥₁_map self.kept_so (kept-fewer m.seen
          (m.world_of self.world) self.table.finished self.origins.items self.kept.instances.items
          c.count_done-end.new.self.instances.items c.count_done-end.ensures);
      behind = behind-event m.seen (m.world_of self.world)
          (Done c.args.id) self.legal legal c.push.ensures.events
          (kept-resumed self.slots.items c.put_slot.ensures c.resume.ensures) self.behind;
    }

pub returns-in-None-clause-others : goal.returns-in-None-clause-others
returns-in-None-clause-others g c d =
    let m = g.W.Walker in
    let self = c.give_journal-left.new.self in
    let asks = asks-same c.args.id c.args.request_result c.give_journal-left.ensures.world
    c.give_journal-left.ensures.history c.requires.asks in
    absurd
    (d (root-zero m.seen (m.world_of self.world) c.args.id c.args.request_result self.legal asks
    c.in-None.ensures))

pub returns-in-Some-clause-root : goal.returns-in-Some-clause-root
returns-in-Some-clause-root g c z =
    let m = g.W.Walker in
    let self = c.give_journal-left.new.self in
    let asks = asks-same c.args.id c.args.request_result c.give_journal-left.ensures.world
    c.give_journal-left.ensures.history c.requires.asks in
    absurd
    (called-other-than_root m.seen (m.world_of self.world) c.args.id c.args.request_result
    self.legal
    asks c.in-Some.caller c.in-Some.ensures z)
