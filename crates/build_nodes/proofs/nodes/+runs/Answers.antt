use denote.Exit.{no}
use denote.Param.{param}
use denote.Param.Send.{IsSend, IsSync, param_send, arg_send, shr_send}
use Rattle.std.proofs.Common.{rules, All, subst, sym}
use Rattle.std.proofs.Crossing.{Vec-send}
use Rattle.std.proofs.lemmas.List.Elements.{All-take}
use Rattle.build_nodes.specs.Seats.{HasLeft, IsSeated}
use Rattle.build_nodes.specs.Turns.{IsIdle}
use Rattle.build_nodes.proofs.Active.{idle-first}
use Rattle.build_nodes.proofs.CoreCrossing.{board-crosses, captured-send, Node-send}
use Rattle.build_nodes.proofs.Seated.{all-last, all-more, numbers-pushed}
use Rattle.build_nodes.proofs.Turning.{some-true}
use Rattle.build_nodes.proofs.nodes.+runs.Goals as goal

pub run_both-join-all-requires-send-F : goal.run_both-join-all-requires-send-F
run_both-join-all-requires-send-F g t c κs within =
    let w : IsSend (param 1 g.row.W) = search rules in
    let p : IsSend (param 2 g.row.W-Place) = search rules in
    let o : IsSend (param 3 g.row.W-Origin) = search rules in
    let r : IsSync (param 0 g.row.R) = search rules in
    let board = board-crosses (param 1 g.row.W) (param 2 g.row.W-Place) (param 3 g.row.W-Origin)
    g.W.Walker w o in
    let others = Vec-send _
    (Node-send (param 1 g.row.W) (param 2 g.row.W-Place) (param 3 g.row.W-Origin) g.W.Walker w o
    p) in
    param_send _ _
    (arg_send _ no _ (captured-send _ _ _ _ (shr_send _ _ _ r) (shr_send _ _ _ board) others))

pub run_both-join-all-requires-send-A : goal.run_both-join-all-requires-send-A
run_both-join-all-requires-send-A g t c κs within =
    let w : IsSend (param 1 g.row.W) = search rules in
    let p : IsSend (param 2 g.row.W-Place) = search rules in
    let o : IsSend (param 3 g.row.W-Origin) = search rules in
    param_send _ _
    (arg_send _ no _
    (Vec-send _
    (Node-send (param 1 g.row.W) (param 2 g.row.W-Place) (param 3 g.row.W-Origin) g.W.Walker w o
    p)))

pub run_both-returns-clause-seated : goal.run_both-returns-clause-seated
run_both-returns-clause-seated g t c =
    let joined = c.join-all in
    all-more (λ n. IsSeated c.args.board.now n.seat) c.push_reserved.new.self.items
    joined.result.0.items joined.result.1 c.push_reserved.ensures.items joined.ensures.first.0
    joined.ensures.second.0

pub run_both-returns-clause-left : goal.run_both-returns-clause-left
run_both-returns-clause-left g t c =
    let joined = c.join-all in
    all-more (λ n. HasLeft n.number n.seat) c.push_reserved.new.self.items joined.result.0.items
    joined.result.1 c.push_reserved.ensures.items joined.ensures.first.1 joined.ensures.second.1

pub run_both-returns-clause-numbers : goal.run_both-returns-clause-numbers
run_both-returns-clause-numbers g t c =
    let joined = c.join-all in
    numbers-pushed (λ n. n.number) c.push_reserved.new.self.items joined.result.0.items
    joined.result.1 _ _ c.push_reserved.ensures.items joined.ensures.first.2
    joined.ensures.second.2

pub run_all-work-requires-clause-brought : goal.run_all-work-requires-clause-brought
run_all-work-requires-clause-brought g t c κs within =
    let m = g.W.Walker in
    let seen = m.seen in
    let node = c.in-Some.node in
    let seated = all-last (λ n. IsSeated c.args.board.now n.seat) c.args.nodes.items
    c.pop.new.self.items node c.in-Some.ensures.items c.requires.seated in
    some-true node.seat.world
    (λ first. ∥ IsIdle seen m.earlier node.number (m.world_of first.world) node.seat.seen 0 ∥₁)
    (λ first. idle-first seen m.earlier node.number (m.world_of first.world) node.seat.seen)
    seated.3

pub run_all-take_turns-requires-clause-seated : goal.run_all-take_turns-requires-clause-seated
run_all-take_turns-requires-clause-seated g t c κs within =
    all-last (λ n. IsSeated c.args.board.now n.seat) c.args.nodes.items c.pop.new.self.items
    c.in-Some.node c.in-Some.ensures.items c.requires.seated

pub run_all-run_both-requires-clause-seated : goal.run_all-run_both-requires-clause-seated
run_all-run_both-requires-clause-seated g t c κs within =
    let board = c.args.board.now in (
      c.take_turns.ensures.seated,
      subst (All (λ n. IsSeated board n.seat)) (sym c.in-Some.ensures.rest)
          (All-take (λ n. IsSeated board n.seat) _ _ c.requires.seated),
    )

pub run_all-run_all-left-requires-clause-seated : goal.run_all-run_all-left-requires-clause-seated
run_all-run_all-left-requires-clause-seated g t c κs within =
    let board = c.args.board.now in
    subst (All (λ n. IsSeated board n.seat)) (sym c.in-Some.ensures.rest)
    (All-take (λ n. IsSeated board n.seat) _ _ c.requires.seated)

pub run_all-returns-in-None-clause-seated : goal.run_all-returns-in-None-clause-seated
run_all-returns-in-None-clause-seated g t c =
    let pushed = c.push_reserved-in-None in
    all-more (λ n. IsSeated c.args.board.now n.seat) pushed.new.self.items
    c.run_all-left.result.items c.take_turns.new.node pushed.ensures.items
    c.run_all-left.ensures.seated c.take_turns.ensures.seated

pub run_all-returns-in-None-clause-left : goal.run_all-returns-in-None-clause-left
run_all-returns-in-None-clause-left g t c =
    let pushed = c.push_reserved-in-None in
    all-more (λ n. HasLeft n.number n.seat) pushed.new.self.items c.run_all-left.result.items
    c.take_turns.new.node pushed.ensures.items c.run_all-left.ensures.left
    (c.take_turns.ensures.left c.in-None.is)
