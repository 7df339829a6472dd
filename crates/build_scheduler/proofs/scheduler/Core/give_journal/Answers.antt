use Rattle.std.proofs.Common.{refl, subst, sym}
use Rattle.std.proofs.Math.Logic.{∥∥₁_elim, ∥∥₁_map}
use Rattle.build_scheduler.specs.Learnt.{AreInOrder}
use Rattle.build_scheduler.proofs.HandedBack.{handed-back, none-first}
use Rattle.build_scheduler.proofs.HistoryFacts.{in_order-prop, table_in_order}
use Rattle.build_scheduler.proofs.Passing.{
  can-take,
  caller-there,
  passed-behind,
  passed-indexed,
  passed-shown,
}
use Rattle.build_scheduler.proofs.scheduler.Core.give_journal.Goals as goal

pub parent_of-requires : goal.parent_of-requires
parent_of-requires g c =
    let m = g.W.Walker in
    let self = c.args.self.now in
    caller-there m.seen (m.world_of self.world) c.args.id self.legal c.requires.over

pub pass_journal-requires-clause-in_order : goal.pass_journal-requires-clause-in_order
pass_journal-requires-clause-in_order g c =
    let m = g.W.Walker in
    let self = c.args.self.now in
    ∥∥₁_elim self.legal (in_order-prop self.table.finished) (λ x. subst AreInOrder (sym x.finished)
    (table_in_order (m.world_of self.world) self.history.events x.state x.history))

pub pass_journal-requires-clause-can : goal.pass_journal-requires-clause-can
pass_journal-requires-clause-can g c =
    let m = g.W.Walker in
    let self = c.args.self.now in
    let seen = m.seen in
    can-take seen (m.world_of self.world) c.args.id
    (seen c.args.walk) c.in-Some.caller c.in-Some.ensures self.legal c.requires.own c.requires.over

pub invariant_of-self : goal.invariant_of-self
invariant_of-self g c =
    let m = g.W.Walker in
    let self = c.args.self.now in
    let seen = m.seen in
    let w = m.world_of self.world in
    let passed = c.pass_journal.ensures.passed in
    record {
      legal = ∥∥₁_map self.legal (λ x. passed-shown seen w c.in-Some.caller passed x);
      indexed =
          ∥∥₁_map self.indexed (λ y. passed-indexed seen self.table.finished c.in-Some.caller passed
          y);
      counted = self.counted;
      active = self.active;
      few = self.few;
      nested = self.nested;
      stops = self.stops;
      kept_so = self.kept_so;
      behind =
          ∥∥₁_map self.behind (λ b. passed-behind seen self.table.finished c.in-Some.caller passed w
          self.history.events b);
    }

pub returns-in-None-clause-left : goal.returns-in-None-clause-left
returns-in-None-clause-left g c =
    let m = g.W.Walker in
    let self = c.args.self.now in (
      refl,
      none-first m.seen (m.world_of self.world) c.args.id
          c.in-None.ensures self.legal,
    )

pub returns-in-Some-clause-left : goal.returns-in-Some-clause-left
returns-in-Some-clause-left g c =
    let m = g.W.Walker in
    let self = c.args.self.now in
    handed-back m.seen (m.world_of self.world) c.args.id c.in-Some.caller c.args.walk
    c.pass_journal.result c.in-Some.ensures self.legal c.pass_journal.ensures.left
