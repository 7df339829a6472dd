use Rattle.std.proofs.Common.{ap, subst, sym, ◌∙◌}
use Rattle.std.proofs.Math.Logic.{∥∥₁_map}
use Rattle.std.specs.Prelude.{IsSomeAnd}
use mathlib.Core.List.{IsPrefix}
use Rattle.build_nodes.specs.Marked.{marked}
use Rattle.build_nodes.specs.Turns.{IsBrought}
use Rattle.build_nodes.proofs.CoreCrossing.{shared-crosses}
use Rattle.build_nodes.proofs.Turning.{brought-later, next-there, next-seated}
use Rattle.build_nodes.proofs.nodes.take_turn.Goals as goal

pub take-requires-send-S : goal.take-requires-send-S
take-requires-send-S g c κs within = shared-crosses _ _ _ g.W.Walker c.type_bounds.send-W
    c.type_bounds.send-W-Origin _

pub turn-next-requires : goal.turn-next-requires
turn-next-requires g c =
    let m = g.W.Walker in
    let seat = c.args.seat.now in
    let shared = c.in-State.shared in
    let seen = m.seen in
    let brought = subst
    (λ o.
    IsSomeAnd o
    (λ first. IsBrought seen m.earlier c.args.number (m.world_of first.world) seat.seen
    c.args.brought)) c.in-State.ensures.world c.requires.brought in
    record {
      brought = brought-later seen m.earlier c.args.number (m.world_of shared.first.value.world)
          (m.world_of shared.core.world) seat.seen
          (marked shared.core.history.events shared.core.end)
          (∥∥₁_map shared.same sym) c.in-State.ensures.continues c.args.brought brought;
    }

pub give-requires-send-S : goal.give-requires-send-S
give-requires-send-S g c κs within = shared-crosses _ _ _ g.W.Walker c.type_bounds.send-W
    c.type_bounds.send-W-Origin _

pub give-requires-clause-continues : goal.give-requires-clause-continues
give-requires-clause-continues g c κs within =
    let after = c.turn-next.new.self.core in
    subst (λ l. IsPrefix l (marked after.history.events after.end))
    (sym (ap (λ s. s.seen) c.in-State.ensures.state)) c.turn-next.ensures.continues

pub wake_one-requires-send-S : goal.wake_one-requires-send-S
wake_one-requires-send-S g c κs within = shared-crosses _ _ _ g.W.Walker c.type_bounds.send-W
    c.type_bounds.send-W-Origin _

pub returns-clause-next : goal.returns-clause-next
returns-clause-next g c =
    let m = g.W.Walker in
    let seen = m.seen in
    let before = c.in-State.shared in
    let after = c.turn-next.new.self in
    let past = marked after.core.history.events after.core.end in
    let same = ap (λ s. s.value) c.turn-next.ensures.first in
    let world = ap (λ s. s.world) c.give.ensures
    ∙ (ap (λ s. s.world) c.in-State.ensures.state ∙ c.in-State.ensures.world) in
    next-seated seen m.earlier c.args.number before.first.value (λ first. m.world_of first.world)
    c.give.new.seat.world past c.give.new.seat.seen c.turn-next.result world
    (ap (λ s. s.seen) c.give.ensures)
    (next-there seen m.earlier c.args.number (m.world_of after.core.world)
    (m.world_of before.first.value.world) past
    (∥∥₁_map after.same (λ e. e ∙ ap (λ first. m.world_of first.world) same)) c.turn-next.result
    c.turn-next.ensures.next)
