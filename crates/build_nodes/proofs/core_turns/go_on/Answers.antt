use Rattle.std.proofs.Common.{◌≡◌, None, false, sym, ◌∙◌}
use Rattle.std.proofs.Math.Logic.{∥∥₁_map}
use mathlib.Core.List.{IsPrefix}
use Rattle.turn_board.proofs.Prefixes.{prefix_trans}
use Rattle.build_scheduler.proofs.Replying.{same-records, stopped-caused, stopped-told}
use Rattle.build_nodes.specs.Leaving.{has_left}
use Rattle.build_nodes.specs.Marked.{marked}
use Rattle.build_nodes.proofs.Away.{back-kept}
use Rattle.build_nodes.proofs.Here.{claim-shown, kept-shown, result-shown}
use Rattle.build_nodes.proofs.Leaves.{left-told, over-spent}
use Rattle.build_nodes.proofs.Marks.{copied-none, copied-some}
use Rattle.build_nodes.proofs.Replies.{reply-active, reply-ahead}
use Rattle.build_nodes.proofs.core_turns.go_on.Given.{Over}
use Rattle.build_nodes.proofs.core_turns.go_on.Goals as goal
use Rattle.build_nodes.proofs.core_turns.go_on.Goals.{After-answer_ask}

-- by any reply the history continues
continued : (g : Over) (c : After-answer_ask g) → IsPrefix
    (marked c.args.core.now.history.events c.args.core.now.end)
    (marked c.answer_ask.new.self.history.events c.answer_ask.new.self.end)
continued g c =
    let m = g.W.Walker in
    let now = c.args.core.now in
    let next = c.answer_ask.new.self in
    let asking = c.args.asking in
    reply-ahead m.seen (m.world_of now.world) now.history.events next.history.events
    next.table.finished now.end next.end asking.id asking.walk asking.ask c.requires.running
    c.answer_ask.result c.answer_ask.ensures.reply

-- and where it tells no end, the node has not retired
stays : (g : Over) (c : After-answer_ask g) → c.answer_ask.new.self.end ≡ None
    → has_left c.args.node
    (marked c.answer_ask.new.self.history.events c.answer_ask.new.self.end) ≡ false
stays g c untold =
    let m = g.W.Walker in
    let now = c.args.core.now in
    let next = c.answer_ask.new.self in
    let asking = c.args.asking in
    reply-active m.seen (m.world_of now.world) now.history.events next.history.events
    next.table.finished now.end next.end asking.id asking.walk asking.ask c.requires.running
    c.args.node untold c.requires.active c.answer_ask.result c.answer_ask.ensures.reply

pub give_answer-requires-clause-active : goal.give_answer-requires-clause-active
give_answer-requires-clause-active g c = stays g
    (goal.at.give_answer-requires-clause-active g c).After-answer_ask c.in-GoesOn.ensures.reply.1

pub give_answer-requires-clause-here : goal.give_answer-requires-clause-here
give_answer-requires-clause-here g c =
    let m = g.W.Walker in
    let now = c.args.core.now in
    let next = c.answer_ask.new.self in
    claim-shown m.seen (m.world_of next.world) now.history.events c.args.asking.id c.args.node
    (m.world_of now.world) c.answer_ask.ensures.world c.requires.here next.legal
    c.args.asking.ask c.in-GoesOn.next c.in-GoesOn.ensures.reply.0

pub returns-in-GoesOn-clause-continues : goal.returns-in-GoesOn-clause-continues
returns-in-GoesOn-clause-continues g c = prefix_trans _ _ _
    (continued g (goal.at.returns-in-GoesOn-clause-continues g c).After-answer_ask)
    c.give_answer.ensures.continues

pub hand_over-requires-clause-active : goal.hand_over-requires-clause-active
hand_over-requires-clause-active g c = stays g
    (goal.at.hand_over-requires-clause-active g c).After-answer_ask c.in-UsesOwn.ensures.reply.1

pub hand_over-requires-clause-here : goal.hand_over-requires-clause-here
hand_over-requires-clause-here g c =
    let m = g.W.Walker in
    let now = c.args.core.now in
    let next = c.answer_ask.new.self in
    result-shown m.seen (m.world_of next.world) now.history.events c.args.asking.id c.args.node
    (m.world_of now.world) c.answer_ask.ensures.world c.requires.here next.legal
    c.args.asking.ask c.in-UsesOwn.ensures.reply.0

pub returns-in-UsesOwn-clause-continues : goal.returns-in-UsesOwn-clause-continues
returns-in-UsesOwn-clause-continues g c = prefix_trans _ _ _
    (continued g (goal.at.returns-in-UsesOwn-clause-continues g c).After-answer_ask)
    c.hand_over.ensures.continues

pub assign_next-requires-clause-active : goal.assign_next-requires-clause-active
assign_next-requires-clause-active g c = stays g
    (goal.at.assign_next-requires-clause-active g c).After-answer_ask c.in-Waits.ensures.reply.1

pub returns-in-Waits-clause-continues : goal.returns-in-Waits-clause-continues
returns-in-Waits-clause-continues g c = prefix_trans _ _ _
    (continued g (goal.at.returns-in-Waits-clause-continues g c).After-answer_ask)
    c.assign_next.ensures.continues

pub assign_next-requires-in-Over-clause-active : goal.assign_next-requires-in-Over-clause-active
assign_next-requires-in-Over-clause-active g c = stays g
    (goal.at.assign_next-requires-in-Over-clause-active g c).After-answer_ask
    (copied-none _ _ c.end.ensures.end (sym c.is_some.ensures ∙ c.if-is_some.false))

pub returns-else-is_some-clause-continues : goal.returns-else-is_some-clause-continues
returns-else-is_some-clause-continues g c = prefix_trans _ _ _
    (continued g (goal.at.returns-else-is_some-clause-continues g c).After-answer_ask)
    c.assign_next-in-Over.ensures.continues

pub returns-then-is_some-clause-continues : goal.returns-then-is_some-clause-continues
returns-then-is_some-clause-continues g c = continued g
    (goal.at.returns-then-is_some-clause-continues g c).After-answer_ask

pub returns-then-is_some-clause-spent : goal.returns-then-is_some-clause-spent
returns-then-is_some-clause-spent g c =
    let next = c.answer_ask.new.self in
    over-spent next.history.nodes c.args.core.now.history.events next.history.events
    c.args.asking.id c.args.asking.ask next.end c.in-Over.ensures.reply.0

pub returns-then-is_some-clause-next : goal.returns-then-is_some-clause-next
returns-then-is_some-clause-next g c = left-told c.args.node c.answer_ask.new.self.history.events _
    (copied-some _ _ c.end.ensures.end (sym c.is_some.ensures ∙ c.if-is_some.true))

pub returns-in-Stopped-clause-continues : goal.returns-in-Stopped-clause-continues
returns-in-Stopped-clause-continues g c = continued g
    (goal.at.returns-in-Stopped-clause-continues g c).After-answer_ask

pub returns-in-Stopped-clause-spent : goal.returns-in-Stopped-clause-spent
returns-in-Stopped-clause-spent g c = λ no. absurd
    (stopped-caused (g.W.Walker.world_of c.args.core.now.world) c.args.core.now.history.events
    c.args.asking.id c.args.asking.ask c.answer_ask.new.self.end c.in-Stopped.ensures.reply.0 no)

pub returns-in-Stopped-clause-next : goal.returns-in-Stopped-clause-next
returns-in-Stopped-clause-next g c = left-told c.args.node c.answer_ask.new.self.history.events _
    (stopped-told (g.W.Walker.world_of c.args.core.now.world) c.args.core.now.history.events
    c.args.asking.id c.args.asking.ask c.answer_ask.new.self.end c.in-Stopped.ensures.reply.0)

pub take_back-requires-clause-here : goal.take_back-requires-clause-here
take_back-requires-clause-here g c =
    let m = g.W.Walker in
    let now = c.args.core.now in
    let next = c.answer_ask.new.self in
    kept-shown m.seen (m.world_of next.world) now.history.events c.args.asking.id c.args.node
    (m.world_of now.world) c.answer_ask.ensures.world c.requires.here next.legal
    c.in-NoMemory.ensures.reply.3

pub take_back-requires-clause-back : goal.take_back-requires-clause-back
take_back-requires-clause-back g c =
    let m = g.W.Walker in
    let now = c.args.core.now in
    let next = c.answer_ask.new.self in
    let asking = c.args.asking in
    let reply = c.in-NoMemory.ensures.reply in
    let same = c.answer_ask.ensures.table
    ∙ same-records asking.ask now.table.finished reply.0 in
    ∥∥₁_map c.requires.back (λ b. back-kept m.seen m.earlier (m.world_of now.world)
    (m.world_of next.world) now.history.events next.history.events now.table.finished
    next.table.finished asking.id asking.walk c.in-NoMemory.walk asking.answer
    c.answer_ask.ensures.world reply.3 same reply.2 b)

pub returns-in-NoMemory-clause-continues : goal.returns-in-NoMemory-clause-continues
returns-in-NoMemory-clause-continues g c = prefix_trans _ _ _
    (continued g (goal.at.returns-in-NoMemory-clause-continues g c).After-answer_ask)
    c.take_back.ensures.continues
