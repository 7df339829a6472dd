use Rattle.std.proofs.Common.{Some, sym, subst}
use Rattle.build_scheduler.specs.Ready.{IsLeastReady}
use Rattle.build_plain.specs.Driven.{NoneAssigned}
use Rattle.build_scheduler.specs.Drivers.{IsLegal}
use Rattle.build_plain.proofs.OneAtATime.{free-of, legal-of, never_idle}
use Rattle.build_plain.proofs.Repeats.{
  as-before,
  repeat-drives,
  repeat-free,
  repeat-grows,
  repeat-uses,
}
use Rattle.build_plain.proofs.Using.{unless-any}
use Rattle.build_plain.proofs.alone.take_turn.Goals as goal

pub unreachable-requires : goal.unreachable-requires
unreachable-requires g c =
    let m = g.W.Walker in
    let core = c.args.core.now in
    never_idle m.seen (m.world_of core.world) core.legal c.requires.running c.requires.free
    (subst (IsLeastReady (m.world_of core.world) core.history.events) c.in-None.is c.ready.ensures)

pub hand_out-requires-clause-free : goal.hand_out-requires-clause-free
hand_out-requires-clause-free g c =
    let m = g.W.Walker in
    let core = c.args.core.now in
    let now = c.is_repeated.new.core in
    as-before (m.world_of core.world) (m.world_of now.world) core.history.events now.history.events
    c.is_repeated.ensures.world c.if-not-is_repeated.ensures.repeated
    (λ w events. NoneAssigned w events) c.requires.free

pub hand_out-requires-clause-least : goal.hand_out-requires-clause-least
hand_out-requires-clause-least g c =
    let m = g.W.Walker in
    let core = c.args.core.now in
    let now = c.is_repeated.new.core in
    as-before (m.world_of core.world) (m.world_of now.world) core.history.events now.history.events
    c.is_repeated.ensures.world c.if-not-is_repeated.ensures.repeated
    (λ w events. IsLeastReady w events (Some c.in-Some.id))
    (subst (IsLeastReady (m.world_of core.world) core.history.events) c.in-Some.is c.ready.ensures)

pub hand_out-requires-clause-place : goal.hand_out-requires-clause-place
hand_out-requires-clause-place g c =
    subst (g.W.Walker.Fits c.args.place.now) (sym c.is_repeated.ensures.world)
    c.requires.place

pub returns-else-not-is_repeated-clause-drives : goal.returns-else-not-is_repeated-clause-drives
returns-else-not-is_repeated-clause-drives g c =
    let m = g.W.Walker in
    let core = c.args.core.now in
    repeat-drives (m.world_of core.world) core.table.finished core.history.events
    c.is_repeated.new.core.history.events c.in-Some.id
    c.if-not-is_repeated.ensures.repeated c.requires.free
    (subst (IsLeastReady (m.world_of core.world) core.history.events) c.in-Some.is c.ready.ensures)

pub returns-else-not-is_repeated-clause-free : goal.returns-else-not-is_repeated-clause-free
returns-else-not-is_repeated-clause-free g c =
    let m = g.W.Walker in
    let core = c.args.core.now in
    let after = c.is_repeated.new.core in
    free-of (m.world_of core.world) after.history.events after.end
    (repeat-free (m.world_of core.world) core.table.finished core.history.events
    after.history.events c.in-Some.id c.if-not-is_repeated.ensures.repeated
    (subst (λ w. ∥ IsLegal w after.history.events ∥₁) c.is_repeated.ensures.world
    (legal-of m.seen (m.world_of after.world) after.legal)) c.requires.free)

pub returns-else-not-is_repeated-clause-grows : goal.returns-else-not-is_repeated-clause-grows
returns-else-not-is_repeated-clause-grows g c =
    let core = c.args.core.now in
    repeat-grows (g.W.Walker.world_of core.world) core.table.finished core.history.events
    c.is_repeated.new.core.history.events c.in-Some.id
    c.if-not-is_repeated.ensures.repeated

pub returns-else-not-is_repeated-clause-uses : goal.returns-else-not-is_repeated-clause-uses
returns-else-not-is_repeated-clause-uses g c first =
    let m = g.W.Walker in
    let core = c.args.core.now in
    let after = c.is_repeated.new.core in
    unless-any after.end _ (repeat-uses (m.world_of core.world) core.table.finished
    core.history.events after.history.events c.in-Some.id c.if-not-is_repeated.ensures.repeated
    (subst (λ w. ∥ IsLegal w after.history.events ∥₁) c.is_repeated.ensures.world
    (legal-of m.seen (m.world_of after.world) after.legal)) (m.used c.args.place.now))
