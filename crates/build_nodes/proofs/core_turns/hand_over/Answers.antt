use Rattle.std.proofs.Common.{◌<◌, ◌^◌, ap, subst, length, arith}
use Rattle.std.proofs.Math.Logic.{∥∥₁_map₂}
use Rattle.build_nodes.proofs.Away.{both-shown, handed}
use Rattle.build_nodes.proofs.Leaves.{untold-spent}
use Rattle.build_nodes.proofs.core_turns.hand_over.Goals as goal

pub returns-clause-spent : goal.returns-clause-spent
returns-clause-spent g c =
    let core = c.args.core.now in
    untold-spent core.history.nodes core.history.events core.end c.requires.running

pub returns-clause-next : goal.returns-clause-next
returns-clause-next g c =
    let m = g.W.Walker in
    let core = c.args.core.now in
    let held = c.args.held in
    let few : length c.history.result.now < 2 ^ 63 = omega (arith, c.history.type_inv) in
    let few_so = subst (λ l. length l < 2 ^ 63) c.history.ensures.events few in
    let seen = m.seen in
    ∥∥₁_map₂ core.legal (both-shown c.requires.here c.requires.out) (λ x p.
    handed seen m.earlier c.args.node (m.world_of core.world) x held.id held.walk held.answer _
    c.requires.running c.requires.active p.0 p.1 (ap length c.history.ensures.events) few_so
    c.requires.enough)
