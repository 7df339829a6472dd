use Rattle.std.proofs.Common.{◌≡◌, Some, ap, subst, sym}
use Rattle.std.proofs.Math.Logic.{∥∥₁_elim, ∥∥₁_map}
use Rattle.std.specs.Prelude.{is_some, IsSome}
use Rattle.result_cache.specs.Table.{TableRuns}
use Rattle.build_meaning.specs.World.{World}
use Rattle.build_scheduler.specs.Learnt.{ArePartOf}
use Rattle.build_scheduler.specs.Position.{answered}
use Rattle.build_scheduler.proofs.HistoryFacts.{some-prop}
use Rattle.build_scheduler.specs.Drivers.{AreAlike}
use Rattle.build_nodes.proofs.Away.{learnt-alike, learnt-out, part-prop, refused-out}
use Rattle.build_nodes.proofs.core_turns.give_answer.Goals as goal

pub learn_records-requires-clause-known : goal.learn_records-requires-clause-known
learn_records-requires-clause-known g c =
    let m = g.W.Walker in
    subst (λ (t : TableRuns). ArePartOf (m.seen c.args.held.walk).learnt t.finished)
    (sym c.table.ensures.table) (∥∥₁_elim c.requires.out (part-prop _ _) (λ o. o.learnt))

pub learn_records-requires-clause-fits : goal.learn_records-requires-clause-fits
learn_records-requires-clause-fits g c =
    let m = g.W.Walker in
    let walk = c.args.held.walk in
    subst (λ (t : TableRuns). IsSome (answered (m.seen walk).world t.finished (m.seen walk).position
    c.args.held.answer)) (sym c.table.ensures.table) (∥∥₁_elim c.requires.out (some-prop _)
    (λ o. ap is_some (subst (λ (v : World m.Site m.Input m.Output). answered v
    c.args.core.now.table.finished (m.seen walk).position c.args.held.answer ≡ Some o.next)
    (sym o.world) o.goes)))

pub hand_over-requires-clause-out : goal.hand_over-requires-clause-out
hand_over-requires-clause-out g c =
    let m = g.W.Walker in
    let core = c.args.core.now in
    let held = c.args.held in
    let after = c.learn_records.new.walk in
    let told = c.in-Ok.ensures in
    let part = λ (t : TableRuns). ArePartOf (m.seen after).learnt t.finished in
    let known = subst part c.table.ensures.table told.known in
    let seen = m.seen in
    ∥∥₁_map c.requires.out (λ o.
    learnt-out seen m.earlier (m.world_of core.world) core.history.events core.table.finished
    held.id held.walk after held.answer o known told.world told.position told.asked)

pub hand_over-requires-clause-enough : goal.hand_over-requires-clause-enough
hand_over-requires-clause-enough g c =
    let m = g.W.Walker in
    let core = c.args.core.now in
    let held = c.args.held in
    let after = c.learn_records.new.walk in
    let told = c.in-Ok.ensures in
    let w = (m.seen held.walk).world in
    let p = (m.seen held.walk).position in
    let alike = λ (t : TableRuns). AreAlike w (m.seen after).learnt t.finished p held.answer in
    let learns = subst alike c.table.ensures.table told.learns in
    let seen = m.seen in
    learnt-alike seen m.earlier (m.world_of core.world) core.table.finished held.walk after
    held.answer learns told.world told.position

pub retire-requires-clause-out : goal.retire-requires-clause-out
retire-requires-clause-out g c =
    let m = g.W.Walker in
    let core = c.args.core.now in
    let held = c.args.held in
    let e = c.learn_records.ensures in
    let after = c.learn_records.new.walk in
    let seen = m.seen in
    ∥∥₁_map c.requires.out (λ o.
    refused-out seen m.earlier (m.world_of core.world) core.history.events core.table.finished
    held.id held.walk after held.answer o e.world e.position e.asked c.in-Err.ensures.err)
