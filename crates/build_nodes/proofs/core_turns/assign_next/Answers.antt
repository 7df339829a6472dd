use Rattle.std.proofs.Common.{length, refl, ap, sym, ◌∙◌}
use Rattle.turn_board.proofs.Prefixes.{prefix_trans}
use Rattle.build_nodes.proofs.Active.{active-more, idle-now}
use Rattle.build_nodes.proofs.Here.{assign-shown}
use Rattle.build_nodes.proofs.Leaves.{untold-spent}
use Rattle.build_nodes.proofs.Marks.{ahead, length-unmarked}
use Rattle.build_nodes.proofs.core_turns.assign_next.Goals as goal

pub give_answer-requires-clause-here : goal.give_answer-requires-clause-here
give_answer-requires-clause-here g c =
    let m = g.W.Walker in
    let now = c.next_ready.new.core in
    let next = c.assign-walk.new.self in
    assign-shown m.seen (m.world_of next.world) now.history.events c.in-Some.id c.args.node
    c.assign-walk.ensures.history next.legal

pub give_answer-requires-clause-active : goal.give_answer-requires-clause-active
give_answer-requires-clause-active g c =
    let now = c.next_ready.new.core in
    let next = c.assign-walk.new.self in
    let running = c.next_ready.ensures.running in
    active-more c.args.node now.history.events next.history.events _ now.end next.end running
    (c.assign-walk.ensures.end ∙ running) c.assign-walk.ensures.history refl
    c.next_ready.ensures.active

pub returns-in-Some-clause-continues : goal.returns-in-Some-clause-continues
returns-in-Some-clause-continues g c =
    let now = c.next_ready.new.core in
    let next = c.assign-walk.new.self in
    prefix_trans _ _ _ c.next_ready.ensures.continues
    (prefix_trans _ _ _ (ahead now.history.events next.history.events _ now.end next.end
    c.next_ready.ensures.running c.assign-walk.ensures.history) c.give_answer.ensures.continues)

pub returns-in-None-clause-spent : goal.returns-in-None-clause-spent
returns-in-None-clause-spent g c =
    let core = c.next_ready.new.core in
    untold-spent core.history.nodes core.history.events core.end c.next_ready.ensures.running

pub returns-in-None-clause-next : goal.returns-in-None-clause-next
returns-in-None-clause-next g c =
    let m = g.W.Walker in
    let now = c.next_ready.new.core in
    let running = c.next_ready.ensures.running in (
      ap length c.history.ensures.events ∙ sym (length-unmarked now.history.events now.end running),
      idle-now m.seen m.earlier c.args.node
          (m.world_of now.world) now.history.events now.end _ running
          (ap length c.history.ensures.events) c.next_ready.ensures.active,
    )
