use Rattle.std.proofs.Common.{refl, arith}
use Rattle.std.proofs.Math.Logic.{∥∥₁_map, ∥∥₁_map₂}
use Rattle.build_meaning.specs.declared.event.Event.TheVariants.{Retire}
use Rattle.build_meaning.proofs.ListPlaces.{at-less}
use Rattle.build_scheduler.specs.declared.slot.End.TheVariants.{NoMemory}
use Rattle.build_scheduler.specs.declared.slot.Slot.TheVariants.{Assigned, Ready}
use Rattle.build_scheduler.proofs.Behind.{behind-event, behind-same, kept-put}
use Rattle.build_scheduler.proofs.Retiring.{assigned-to, back-indexed, node-there}
use Rattle.build_scheduler.proofs.Retiring.{retired-shown, unlisted-there}
use Rattle.build_scheduler.proofs.Rooms.{room-shown}
use Rattle.build_scheduler.proofs.Stopping.{none-stops, stopped-shown}
use Rattle.build_scheduler.proofs.scheduler.Core.retire.Goals as goal

pub node_of-node-requires : goal.node_of-node-requires
node_of-node-requires g c =
    let m = g.W.Walker in
    let self = c.args.self.now in
    let seen = m.seen in
    node-there seen (m.world_of self.world) c.args.id c.args.walk c.args.answer self.legal
    c.requires.out

pub insert-requires-clause-room : goal.insert-requires-clause-room
insert-requires-clause-room g c =
    let at_node = c.node_of-node in
    (unlisted-there c.args.id at_node.result at_node.ensures c.args.self.now.indexed).1

pub insert-requires-clause-absent : goal.insert-requires-clause-absent
insert-requires-clause-absent g c =
    let at_node = c.node_of-node in
    (unlisted-there c.args.id at_node.result at_node.ensures c.args.self.now.indexed).0

pub put_slot-requires : goal.put_slot-requires
put_slot-requires g c =
    let at_node = c.node_of-node in
    at-less c.args.self.now.slots.items c.args.id (Assigned at_node.result) at_node.ensures

pub invariant_of-self : goal.invariant_of-self
invariant_of-self g c =
    let m = g.W.Walker in
    let self = c.args.self.now in
    let seen = m.seen in
    let w = m.world_of self.world in
    let id = c.args.id in
    let walk = c.args.walk in
    let answer = c.args.answer in
    let node = c.node_of-node.result in
    let was = c.node_of-node.ensures in
    let is = c.put_slot.ensures in
    let added = c.if-retire.ensures.retired in
    let legal = ∥∥₁_map₂ self.legal c.requires.out (λ x o.
    retired-shown seen w id walk answer node was added.0 added.1 is x o) in
    record {
      legal = legal;
      indexed = ∥∥₁_map self.indexed (λ x.
          back-indexed self.slots.items self.ready c.insert.new.self self.waiting.items id node
          walk answer was is c.insert.ensures.numbers c.insert.ensures.room x);
      counted = self.counted;
      active = c.retire.ensures.active;
      few = self.few;
      nested = self.nested;
      stops = ∣ none-stops w _ c.requires.running ∣₁;
      kept_so = self.kept_so;
      behind = behind-event seen w (Retire id node) self.legal legal added.0
          (kept-put self.slots.items (Ready walk answer) is) self.behind;
    }

pub returns-then-retire-clause-retired : goal.returns-then-retire-clause-retired
returns-then-retire-clause-retired g c =
    let m = g.W.Walker in
    let self = c.args.self.now in
    let seen = m.seen in
    let w = m.world_of self.world in
    let node = c.node_of-node.result in
    let was = c.node_of-node.ensures in
    let to = ∥∥₁_map₂ self.legal c.requires.out (λ x o.
    assigned-to seen w c.args.id c.args.walk c.args.answer node was x o) in
    ((node, to, c.if-retire.ensures.retired.0), c.requires.running)

pub invariant_of-self-else-retire : goal.invariant_of-self-else-retire
invariant_of-self-else-retire g c =
    let m = g.W.Walker in
    let self = c.args.self.now in
    let seen = m.seen in
    let w = m.world_of self.world in
    let kept = c.if-retire.ensures.retired in
    record {
      legal = ∥∥₁_map self.legal (λ x.
          stopped-shown seen w NoMemory tt (room-shown seen w kept.0
          (let room = kept.1 in omega arith) refl refl refl x));
      indexed = self.indexed;
      counted = self.counted;
      active = c.retire.ensures.active;
      few = self.few;
      nested = self.nested;
      stops = ∣ tt ∣₁;
      kept_so = self.kept_so;
      behind = behind-same seen w kept.0 refl self.behind;
    }
