use Rattle.std.proofs.Common.{◌≡◌, sym, ap, ◌∙◌}
use Rattle.target_order.specs.Left.{left}
use Rattle.request_machine.specs.Seen.{seen_project}
use Rattle.request_machine.specs.OrderReplies.{order_reply_of}
use Rattle.request_machine.specs.declared.order.OrderReply.TheVariants.{Stop}
use Rattle.request_machine.proofs.Answering.{stop_step, stands_alike}
use Rattle.request_machine.proofs.context.RequestContext.answer_order.Goals as goal

pub returns-in-Stop : goal.returns-in-Stop
returns-in-Stop c =
    let m = c.args.self.now in
    let p = seen_project m.project in
    let tree = left c.loop-answer.order c.loop-answer.answer in
    let order = c.advance.new.self in
    let order_reply : order_reply_of p m.key.now m.state.now m.journal.now order.failed
    c.in_ok-ask.ask
    ≡ Stop c.in-Stop.next_stop =
    ap (λ b. order_reply_of p m.key.now m.state.now m.journal.now b c.in_ok-ask.ask)
    (sym c.has_failed.ensures) ∙ (sym c.in_ok-next.ensures ∙ c.in-Stop.is) in
    stands_alike p m.key.now m.state.now m.journal.now tree (left c.args.order.now c.args.first)
    c.in-Stop.next_stop order c.loop-answer.invariant.same
    (stop_step p m.key.now m.state.now m.journal.now tree c.in_ok-ask.ask order c.in-Stop.next_stop
    c.in_ok-ask.ensures.asks c.in_ok-ask.ensures.asked order_reply)
