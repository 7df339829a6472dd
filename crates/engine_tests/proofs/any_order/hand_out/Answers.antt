use Rattle.std.proofs.Common.{List, sym, subst, ◌∙◌}
use Rattle.build_meaning.specs.declared.event.Event.{Event}
use Rattle.build_meaning.specs.declared.event.Event.TheVariants.{Assign}
use Rattle.build_scheduler.specs.Own.{IsOut}
use Rattle.build_scheduler.specs.Ready.{IsReady}
use Rattle.engine_tests.proofs.Others.{assigned-continues, repeated-continues, repeated-none}
use Rattle.engine_tests.proofs.any_order.hand_out.Goals as goal

pub assign-walk-requires-clause-ready : goal.assign-walk-requires-clause-ready
assign-walk-requires-clause-ready g c =
    let m = g.W.Walker in
    let core = c.args.core.now in
    let after = c.is_repeated.new.core in
    let same =
    repeated-none (m.world_of core.world) core.table.finished core.history.events
    after.history.events c.args.id c.args.node c.is_repeated.result c.if-is_repeated.false
    c.is_repeated.ensures.repeated in
    subst (λ v. ∥ IsReady v after.history.events c.args.id ∥₁) (sym c.is_repeated.ensures.world)
    (subst (λ (events : List Event). ∥ IsReady (m.world_of core.world) events c.args.id ∥₁)
    (sym same) c.requires.ready)

pub returns-then-is_repeated-clause-continues : goal.returns-then-is_repeated-clause-continues
returns-then-is_repeated-clause-continues g c =
    let core = c.args.core.now in
    repeated-continues (g.W.Walker.world_of core.world) core.table.finished core.history.events
    c.is_repeated.new.core.history.events c.args.id c.args.node c.is_repeated.result
    c.is_repeated.ensures.repeated

pub returns-else-is_repeated-clause-continues : goal.returns-else-is_repeated-clause-continues
returns-else-is_repeated-clause-continues g c =
    let core = c.args.core.now in
    assigned-continues (g.W.Walker.world_of core.world) core.table.finished core.history.events
    c.is_repeated.new.core.history.events c.assign-walk.new.self.history.events c.args.id
    c.args.node c.is_repeated.result (Assign c.args.id c.args.node) c.if-is_repeated.false
    c.is_repeated.ensures.repeated c.assign-walk.ensures.history

pub returns-else-is_repeated-clause-next : goal.returns-else-is_repeated-clause-next
returns-else-is_repeated-clause-next g c =
    let m = g.W.Walker in
    let after = c.assign-walk.new.self in
    let walk = c.assign-walk.result.0 in
    subst (λ w. ∥ IsOut w after.history.events after.table.finished c.args.id (m.seen walk)
    c.assign-walk.result.1 ∥₁) (c.assign-walk.ensures.world ∙ c.is_repeated.ensures.world)
    c.assign-walk.ensures.out
