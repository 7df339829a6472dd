use Rattle.std.proofs.Common.{◌≡◌, All, map, vec_len, ap, refl, sym, ◌∙◌, subst}
use Rattle.std.specs.Prelude.{IsSomeAnd}
use Rattle.std.proofs.Math.Logic.{∥∥₁_map}
use Rattle.std.proofs.lemmas.List.Elements.{All-drop, All-take}
use Rattle.build_meaning.specs.History.{AreOfNodes}
use Rattle.build_meaning.proofs.EventsKeepLawful.{some-is}
use Rattle.build_scheduler.proofs.Stopping.{end-told}
use Rattle.turn_board.proofs.Prefixes.{prefix_trans}
use Rattle.build_nodes.specs.Leaving.{IsSpent}
use Rattle.build_nodes.specs.Marked.{marked}
use Rattle.build_nodes.specs.Seats.{IsSeated, numbers_below}
use Rattle.build_nodes.proofs.Built.{built-continues, built-legal, built-told}
use Rattle.build_nodes.proofs.CoreCrossing.{shared-crosses}
use Rattle.build_nodes.proofs.Leaves.{HaveLeft, all-ended, all-left, have-left, left-later}
use Rattle.build_nodes.proofs.nodes.build_with.Given.{Over}
use Rattle.build_nodes.proofs.nodes.build_with.Goals as goal
use Rattle.build_nodes.proofs.nodes.build_with.Goals.{After-into_core}

-- the nodes began with the core that the board was opened with
begun : (g : Over) (c : After-into_core g) → c.close.result.first.value ≡ c.nodes.new.self
begun g c = some-is _ _ (sym c.close.ensures.world
    ∙ (c.run_each.ensures.kept.1
    ∙ (c.join_all.ensures.kept.1
    ∙ (ap (λ s. s.world) c.split_all.ensures.seat ∙ ap (λ s. s.world) c.in_ok-board.ensures))))

same-world : (g : Over) (c : After-into_core g)
    → ∥ g.W.Walker.world_of c.into_core.result.world ≡ g.W.Walker.world_of c.args.core.world ∥₁
same-world g c =
    let m = g.W.Walker in
    ∥∥₁_map c.close.result.same (λ e. ap (λ k. m.world_of k.world) c.into_core.ensures
    ∙ (e ∙ (ap (λ k. m.world_of k.world) (begun g c) ∙ c.nodes.ensures.world)))

same-nodes : (g : Over) (c : After-into_core g)
    → c.into_core.result.history.nodes ≡ vec_len c.args.places
same-nodes g c = ap (λ k. k.history.nodes) c.into_core.ensures
    ∙ (c.close.result.nodes
    ∙ (ap (λ k. k.history.nodes) (begun g c) ∙ (c.nodes.ensures.nodes ∙ c.len.ensures)))

-- the last seat saw the history of the core that comes back
last-seen : (g : Over) (c : After-into_core g)
    → marked c.into_core.result.history.events c.into_core.result.end ≡ c.run_each.new.seat.seen
last-seen g c = ap (λ k. marked k.history.events k.end) c.into_core.ensures
    ∙ c.close.ensures.history

pub open_board-requires-clause-running : goal.open_board-requires-clause-running
open_board-requires-clause-running g c κs within = c.nodes.ensures.end ∙ c.requires.running

pub split_all-requires-clause-fits : goal.split_all-requires-clause-fits
split_all-requires-clause-fits g c κs within =
    let m = g.W.Walker in
    subst (λ known. IsSomeAnd known (λ first. All (λ place. m.Fits place (m.world_of first.world))
    c.args.places.items)) (sym (ap (λ s. s.world) c.in_ok-board.ensures))
    (subst (λ w. All (λ place. m.Fits place w) c.args.places.items)
    (sym c.nodes.ensures.world) c.requires.fits)

pub run_all-left-requires-clause-seated : goal.run_all-left-requires-clause-seated
run_all-left-requires-clause-seated g c κs within =
    let board = c.in_ok-board.board in
    subst (All (λ n. IsSeated board n.seat)) (sym c.in_ok-started.ensures.tail)
    (All-drop (λ n. IsSeated board n.seat) _ _ c.split_all.ensures.nodes.1)

pub run_each-requires-clause-seated : goal.run_each-requires-clause-seated
run_each-requires-clause-seated g c κs within =
    let board = c.in_ok-board.board in
    subst (All (λ n. IsSeated board n.seat)) (sym c.in_ok-started.ensures.items)
    (All-take (λ n. IsSeated board n.seat) _ _ c.split_all.ensures.nodes.1)

pub close-requires-send-S : goal.close-requires-send-S
close-requires-send-S g c κs within = shared-crosses _ _ _ g.W.Walker c.type_bounds.send-W
    c.type_bounds.send-W-Origin _

pub returns-clause-world : goal.returns-clause-world
returns-clause-world g c = same-world g (goal.at.returns-clause-world g c).After-into_core

pub returns-clause-continues : goal.returns-clause-continues
returns-clause-continues g c =
    let core = c.args.core in
    let opened = c.nodes.new.self in
    let built = c.into_core.result in
    let first = ap (λ s. s.seen) c.split_all.ensures.seat
    ∙ (ap (λ s. s.seen) c.in_ok-board.ensures
    ∙ (ap (λ es. marked es opened.end) c.nodes.ensures.history
    ∙ ap (marked core.history.events) c.nodes.ensures.end)) in
    built-continues core.history.events built.history.events core.end built.end
    c.split_all.new.seat.seen c.run_each.new.seat.seen first
    (prefix_trans _ _ _ c.join_all.ensures.continues c.run_each.ensures.continues)
    (last-seen g (goal.at.returns-clause-continues g c).After-into_core)

pub returns-clause-legal : goal.returns-clause-legal
returns-clause-legal g c =
    let m = g.W.Walker in
    let built = c.into_core.result in
    built-legal m.seen (m.world_of built.world) (m.world_of c.args.core.world) built.legal
    (same-world g (goal.at.returns-clause-legal g c).After-into_core)

pub returns-clause-told : goal.returns-clause-told
returns-clause-told g c =
    let m = g.W.Walker in
    let built = c.into_core.result in
    built-told (m.world_of built.world) (m.world_of c.args.core.world) built.history.events
    built.end (same-world g (goal.at.returns-clause-told g c).After-into_core)
    (end-told m.seen (m.world_of built.world) built.end built.legal built.stops)

pub returns-clause-end : goal.returns-clause-end
returns-clause-end g c =
    let at = (goal.at.returns-clause-end g c).After-into_core in
    let built = c.into_core.result in
    let nodes = vec_len c.args.places in
    let started = c.in_ok-started.started in
    let joined = c.join_all.new.seat.seen in
    let last = c.run_each.new.seat.seen in
    let these = have-left (λ n. n.number) joined c.run_all-left.result.items
    (map (λ n. n.number) started.items) c.run_all-left.ensures.numbers c.join_all.ensures.left in
    let others = have-left (λ n. n.number) last c.split_off.new.self.items
    (map (λ n. n.number) c.split_off.new.self.items) refl c.run_each.ensures.left in
    let left = all-left (λ n. n.number) last c.split_all.new.all.items c.split_off.new.self.items
    started.items _ c.in_ok-started.ensures.items c.in_ok-started.ensures.tail others
    (left-later (map (λ n. n.number) started.items) joined last c.run_each.ensures.continues
    these) in
    all-ended nodes built.history.events built.end
    (subst (HaveLeft (numbers_below nodes)) (sym (last-seen g at))
    (subst (λ ns. HaveLeft ns last) c.split_all.ensures.numbers left))
    (subst (λ n. AreOfNodes n built.history.events) (same-nodes g at) built.active)

pub returns-clause-few : goal.returns-clause-few
returns-clause-few g c =
    let built = c.into_core.result in
    subst (λ n. AreOfNodes n built.history.events)
    (same-nodes g (goal.at.returns-clause-few g c).After-into_core) built.active

pub returns-clause-spent : goal.returns-clause-spent
returns-clause-spent g c =
    let built = c.into_core.result in
    subst (λ n. IsSpent n built.history.events built.end)
    (same-nodes g (goal.at.returns-clause-spent g c).After-into_core)
    (subst (λ k. IsSpent k.history.nodes k.history.events k.end) (sym c.into_core.ensures)
    c.close.result.spent)
