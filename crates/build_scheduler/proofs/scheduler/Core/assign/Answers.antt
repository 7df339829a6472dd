use Rattle.std.proofs.Math.Logic.{∥∥₁_map}
use Rattle.build_meaning.specs.declared.event.Event.TheVariants.{Assign}
use Rattle.build_scheduler.specs.declared.slot.Slot.TheVariants.{Assigned}
use Rattle.build_scheduler.proofs.Assigning.{assigned-shown, assigned-out, listed-there, room-there}
use Rattle.build_scheduler.proofs.Behind.{behind-event, kept-put}
use Rattle.build_scheduler.proofs.SlotNumbers.{out-indexed}
use Rattle.build_scheduler.proofs.Stopping.{none-stops}
use Rattle.build_scheduler.proofs.scheduler.Core.assign.Goals as goal

pub remove-requires : goal.remove-requires
remove-requires g c =
    let m = g.W.Walker in
    let self = c.args.self.now in
    record {
      present =
          (listed-there m.seen (m.world_of self.world) c.args.id self.legal self.indexed
          c.requires.ready).0;
    }

pub push-requires-clause-room : goal.push-requires-clause-room
push-requires-clause-room g c =
    let m = g.W.Walker in
    let self = c.args.self.now in
    room-there m.seen (m.world_of self.world) c.args.id self.legal c.requires.ready

pub take_ready-requires : goal.take_ready-requires
take_ready-requires g c =
    let m = g.W.Walker in
    let self = c.args.self.now in
    (listed-there m.seen (m.world_of self.world) c.args.id self.legal self.indexed
    c.requires.ready).1

pub invariant_of-self : goal.invariant_of-self
invariant_of-self g c =
    let m = g.W.Walker in
    let self = c.args.self.now in
    let legal = ∥∥₁_map self.legal (λ x. assigned-shown m.seen (m.world_of self.world) self.history
    c.push.new.self c.args.id c.args.node c.take_ready.result.0 c.take_ready.result.1
    c.take_ready.ensures.was c.take_ready.ensures.is c.push.ensures.events c.push.ensures.room x) in
    record {
      legal = legal;
      indexed = ∥∥₁_map self.indexed
          (λ x. out-indexed self.slots.items self.ready c.remove.new.self self.waiting.items
          c.args.id c.take_ready.result.0 c.take_ready.result.1 c.args.node
          c.take_ready.ensures.was c.take_ready.ensures.is c.remove.ensures.numbers
          c.remove.ensures.room x);
      counted = self.counted;
      active = c.push.ensures.active;
      few = self.few;
      nested = self.nested;
      stops = ∣ none-stops (m.world_of self.world) _ c.requires.running ∣₁;
      kept_so = self.kept_so;
      behind = behind-event m.seen (m.world_of self.world)
          (Assign c.args.id c.args.node) self.legal legal c.push.ensures.events
          (kept-put self.slots.items (Assigned c.args.node) c.take_ready.ensures.is) self.behind;
    }

pub returns-clause-out : goal.returns-clause-out
returns-clause-out g c =
    let m = g.W.Walker in
    let self = c.args.self.now in
    ∥∥₁_map self.legal (λ x. assigned-out m.seen (m.world_of self.world) self.history
    c.push.new.self c.args.id c.args.node c.take_ready.result.0 c.take_ready.result.1
    c.take_ready.ensures.was c.push.ensures.events x)

pub returns-clause-behind : goal.returns-clause-behind
returns-clause-behind g c =
    let m = g.W.Walker in
    let self = c.args.self.now in
    ∥∥₁_map self.behind
    (λ b. b c.args.id c.take_ready.result.0 c.take_ready.result.1 c.take_ready.ensures.was)
