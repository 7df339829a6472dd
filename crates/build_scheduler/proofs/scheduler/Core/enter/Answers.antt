use Rattle.std.proofs.Common.{rules, ◌≡◌, ◌≤◌, length, refl, ap, ◌∙◌, subst, arith}
use Rattle.std.proofs.Math.Logic.{∥∥₁_map, ∥∥₁_elim, ∥∥₁_prop}
use Rattle.std.specs.Prelude.{vec_len}
use Rattle.build_meaning.specs.Meaning.{most_instances}
use Rattle.build_meaning.specs.declared.event.Event.TheVariants.{Request}
use Rattle.build_scheduler.specs.Instances.{IsOver, with_all}
use Rattle.build_scheduler.proofs.Behind.{behind-event, kept-entered}
use Rattle.build_scheduler.proofs.Entering.{
  absent-beyond,
  children-many,
  entered-counted,
  entered-indexed,
  entered-nested,
  entered-shown,
  slot-there,
  spare-room,
}
use Rattle.build_scheduler.proofs.Refusing.{many-refused}
use Rattle.build_scheduler.proofs.Repeating.{kept-entered as ends-entered}
use Rattle.build_scheduler.proofs.Stopping.{none-stops}
use Rattle.build_scheduler.proofs.scheduler.Core.enter.Goals as goal

pub returns-in-Err-TooMany-clause-requested : goal.returns-in-Err-TooMany-clause-requested
returns-in-Err-TooMany-clause-requested g c =
    let m = g.W.Walker in
    let self = c.args.self.now in
    let n = c.requires.children in
    let a = rw c.in-Err-TooMany.field-0-is at c.in-Err-TooMany.ensures in
    rw c.in-Err-TooMany.field-0-is (
      refl,
      refl,
      many-refused m.seen (m.world_of self.world) c.args.id
          c.args.walk c.args.calls self.legal c.requires.own c.requires.asks
          n.depth n.has_depth n.not_deep self.instances self.counted c.in-Err-TooMany.instance
          (subst (λ cs. IsOver self.instances cs c.in-Err-TooMany.instance) c.as_slice.ensures
          a.1),
    )

pub list_new-requires-clause-absent : goal.list_new-requires-clause-absent
list_new-requires-clause-absent g c =
    let self = c.args.self.now in
    let n : vec_len self.slots ≡ length self.slots.items = search rules in
    absent-beyond self.slots.items self.ready self.waiting.items c.len.result (c.len.ensures ∙ n)
    self.indexed

pub push-requires-clause-room : goal.push-requires-clause-room
push-requires-clause-room g c =
    let m = g.W.Walker in
    let self = c.args.self.now in
    spare-room (m.world_of self.world) self.history _ c.requires.spare

pub enter_all-requires-clause-there : goal.enter_all-requires-clause-there
enter_all-requires-clause-there g c =
    let m = g.W.Walker in
    let self = c.args.self.now in
    slot-there m.seen (m.world_of self.world) c.args.id c.args.walk self.legal c.requires.own

pub enter_all-requires-clause-slot_room : goal.enter_all-requires-clause-slot_room
enter_all-requires-clause-slot_room g c =
    let m = g.W.Walker in
    let self = c.args.self.now in
    let k = children-many m.seen c.args.id c.args.walk c.args.calls c.args.children
    c.requires.children in
    omega (arith, c.requires.slot_room)

pub invariant_of-self-in-Ok : goal.invariant_of-self-in-Ok
invariant_of-self-in-Ok g c =
    let m = g.W.Walker in
    let self = c.args.self.now in
    let seen = m.seen in
    let w = m.world_of self.world in
    let n : vec_len self.slots ≡ length self.slots.items = search rules in
    let e = c.enter_all.ensures in
    let added : c.add.new.self ≡ with_all self.instances c.args.calls = c.in-Ok.ensures.0
    ∙ ap (with_all self.instances) c.as_slice.ensures in
    let few : length (with_all self.instances c.args.calls)
    ≤ most_instances = subst (λ xs. length xs ≤ most_instances) added c.in-Ok.ensures.1 in
    let legal = ∥∥₁_elim self.legal ∥∥₁_prop
    (λ x. ∥∥₁_elim c.requires.own ∥∥₁_prop
    (λ o. ∥∥₁_elim self.counted ∥∥₁_prop (λ k. ∥∥₁_map c.requires.spare (λ spare.
    entered-shown seen w c.args.id c.args.walk c.push.new.self c.args.calls c.args.children
    c.requires.children self.instances c.requires.running c.requires.asks few
    c.push.ensures.events c.push.ensures.room e.origins e.slots e.making x o k spare)))) in
    record {
      legal = legal;
      indexed = ∥∥₁_elim self.legal ∥∥₁_prop
          (λ x. ∥∥₁_elim c.requires.own ∥∥₁_prop (λ o. ∥∥₁_map self.indexed (λ y.
          entered-indexed seen w c.args.id c.args.walk c.push.new.self c.args.calls c.args.children
          c.requires.children self.ready c.list_new.new.ready self.waiting.items
          c.enter_all.new.waiting.items c.len.result c.len-in-Ok.result
          (c.len.ensures ∙ n) c.len-in-Ok.ensures e.slots e.waiting c.requires.ready_room
          c.list_new.ensures.room c.list_new.ensures.numbers x o y)));
      counted = ∥∥₁_map self.counted
          (λ k. entered-counted seen c.args.id c.args.walk c.args.calls c.args.children
          c.requires.children
          self.instances c.add.new.self added e.origins k);
      active = c.push.ensures.active;
      few = c.in-Ok.ensures.1;
      nested = ∥∥₁_map self.nested
          (λ v. entered-nested seen c.args.id c.args.walk c.args.calls c.args.children
          c.requires.children e.origins v);
      stops = ∣ none-stops w _ c.requires.running ∣₁;
      kept_so = ∥∥₁_map self.kept_so (ends-entered seen w self.table.finished self.origins.items
          c.args.children.origins.items c.enter_all.new.origins.items self.kept.instances.items
          c.count.new.self.instances.items e.origins c.count.ensures);
      behind = behind-event seen w (Request c.args.id c.args.calls) self.legal legal
          c.push.ensures.events (kept-entered e.slots) self.behind;
    }
