use Rattle.std.proofs.Common.{◌≡◌, true, arith, All, vec_len, subst, sym}
use Rattle.build_nodes.specs.Leaving.{has_left}
use Rattle.build_nodes.specs.Seats.{HasLeft, IsSeated}
use Rattle.build_nodes.proofs.Joining.{joining-more, joining-none}
use Rattle.build_nodes.proofs.Seated.{all-last, joined-all, nothing-in}
use Rattle.build_nodes.proofs.nodes.join_all.Goals as goal

pub loop-node-init : goal.loop-node-init
loop-node-init g c =
    let first = c.args.seat.now in
    let seated = subst (λ b. All (λ n. IsSeated b n.seat) c.args.all.items) (sym c.requires.board)
    c.requires.seated in
    joining-none (λ n. IsSeated first.board n.seat × HasLeft n.number n.seat) (λ n. n.number) first
    c.args.all.items (vec_len c.args.all) c.requires.home
    (λ k d lt. (seated k d lt, c.requires.left k d lt))

pub join_one-requires-clause-seated : goal.join_one-requires-clause-seated
join_one-requires-clause-seated g c κs within =
    let board = c.args.seat.now.board in
    let last = all-last (λ n. IsSeated board n.seat × HasLeft n.number n.seat) c.loop-node.all.items
    c.pop.new.self.items c.in-Some.node c.in-Some.ensures.items c.loop-node.invariant.4 in
    subst (λ b. IsSeated b c.in-Some.node.seat) c.requires.board last.0

pub join_one-requires-clause-left : goal.join_one-requires-clause-left
join_one-requires-clause-left g c κs within =
    let board = c.args.seat.now.board in
    let last = all-last (λ n. IsSeated board n.seat × HasLeft n.number n.seat) c.loop-node.all.items
    c.pop.new.self.items c.in-Some.node c.in-Some.ensures.items c.loop-node.invariant.4 in
    last.1

pub loop-node-preserved : goal.loop-node-preserved
loop-node-preserved g c =
    let first = c.args.seat.now in
    let popped = c.in-Some.ensures in
    let joined = c.join_one.ensures in
    joining-more (λ n. IsSeated first.board n.seat × HasLeft n.number n.seat) (λ n. n.number) first
    c.loop-node.seat c.join_one.new.seat c.args.all.items c.loop-node.all.items
    c.pop.new.self.items c.in-Some.node (vec_len c.args.all) (vec_len c.loop-node.all)
    (vec_len c.pop.new.self) _ c.loop-node.invariant popped.items popped.rest
    (omega (arith, popped.len)) joined.kept.0 joined.kept.1 joined.kept.2 joined.share
    joined.continues joined.left

pub returns-clause-left : goal.returns-clause-left
returns-clause-left g c =
    joined-all (λ n. has_left n.number c.loop-node.seat.seen ≡ true) c.args.all.items
    c.loop-node.all.items c.loop-node.invariant.6
    (nothing-in c.loop-node.all.items (vec_len c.loop-node.all) c.loop-node.all.ok.0
    c.in_default.ensures.cases.0)
