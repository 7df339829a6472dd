use Rattle.std.proofs.Common.{◌≡◌, true, arith, All, vec_len, subst, sym}
use Rattle.build_nodes.specs.Leaving.{has_left}
use Rattle.build_nodes.specs.Seats.{IsSeated}
use Rattle.build_nodes.specs.Turns.{IsIdle}
use Rattle.build_nodes.proofs.Active.{idle-first}
use Rattle.build_nodes.proofs.Joining.{joining-more, joining-none}
use Rattle.build_nodes.proofs.Seated.{all-last, joined-all, nothing-in}
use Rattle.build_nodes.proofs.Turning.{some-true}
use Rattle.build_nodes.proofs.nodes.run_each.Goals as goal

pub loop-node-init : goal.loop-node-init
loop-node-init g c = joining-none (λ n. IsSeated c.args.seat.now.board n.seat) (λ n. n.number)
    c.args.seat.now c.args.all.items (vec_len c.args.all) c.requires.home
    (subst (λ b. All (λ n. IsSeated b n.seat) c.args.all.items) (sym c.requires.board)
    c.requires.seated)

pub work-requires-clause-seated : goal.work-requires-clause-seated
work-requires-clause-seated g c κs within =
    subst (λ b. IsSeated b c.in-Some.node.seat) c.requires.board
    (all-last (λ n. IsSeated c.args.seat.now.board n.seat) c.loop-node.all.items
    c.pop.new.self.items c.in-Some.node c.in-Some.ensures.items c.loop-node.invariant.4)

pub work-requires-clause-brought : goal.work-requires-clause-brought
work-requires-clause-brought g c κs within =
    let m = g.W.Walker in
    let seen = m.seen in
    let node = c.in-Some.node in
    let seated = all-last (λ n. IsSeated c.args.seat.now.board n.seat) c.loop-node.all.items
    c.pop.new.self.items node c.in-Some.ensures.items c.loop-node.invariant.4 in
    some-true node.seat.world
    (λ first. ∥ IsIdle seen m.earlier node.number (m.world_of first.world) node.seat.seen 0 ∥₁)
    (λ first. idle-first seen m.earlier node.number (m.world_of first.world) node.seat.seen)
    seated.3

pub loop-node-preserved : goal.loop-node-preserved
loop-node-preserved g c =
    let popped = c.in-Some.ensures in
    let joined = c.join_one.ensures in
    joining-more (λ n. IsSeated c.args.seat.now.board n.seat) (λ n. n.number) c.args.seat.now
    c.loop-node.seat c.join_one.new.seat c.args.all.items c.loop-node.all.items
    c.pop.new.self.items c.in-Some.node (vec_len c.args.all) (vec_len c.loop-node.all)
    (vec_len c.pop.new.self) _ c.loop-node.invariant popped.items popped.rest
    (omega (arith, popped.len)) joined.kept.0 joined.kept.1 joined.kept.2 joined.share
    joined.continues
    (subst (λ n. has_left n c.join_one.new.seat.seen ≡ true) c.work.ensures.number joined.left)

pub returns-clause-left : goal.returns-clause-left
returns-clause-left g c =
    joined-all (λ n. has_left n.number c.loop-node.seat.seen ≡ true) c.args.all.items
    c.loop-node.all.items c.loop-node.invariant.6
    (nothing-in c.loop-node.all.items (vec_len c.loop-node.all) c.loop-node.all.ok.0
    c.in_default.ensures.cases.0)
