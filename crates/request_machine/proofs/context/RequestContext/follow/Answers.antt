use Rattle.std.proofs.Common.{sym, ap, ◌∙◌}
use Rattle.target_order.specs.Left.{left}
use Rattle.request_machine.specs.Seen.{seen_project}
use Rattle.request_machine.specs.Worlds.{Bodies}
use Rattle.request_machine.specs.Walk.{run_answer, or_failed, walk}
use Rattle.request_machine.proofs.Followed.{run_fits, run_goes, run_ready}
use Rattle.request_machine.proofs.context.RequestContext.follow.Goals as goal

pub follow_reply-requires : goal.follow_reply-requires
follow_reply-requires c =
    let m = c.args.self.now in
    record {
      asked = ap (λ o. o.asked) c.in_ok-order.ensures ∙ c.requires;
      fits = run_fits (seen_project m.project) c.args.run_record.now.ok c.in_ok-state.state
          m.journal.now c.args.name.now c.in_ok-order_reply.order_reply c.in_ok-order_reply.ensures;
    }

pub returns : goal.returns
returns c =
    let m = c.args.self.now in
    let p = seen_project m.project in
    let key = m.key.now in
    let journal = m.journal.now in
    let name = c.args.name.now in
    let ok = c.args.run_record.now.ok in
    let s = c.in_ok-state.state in
    let copy = c.in_ok-order.order in
    let now = c.follow_reply.new.order in
    let next_stop = c.in_ok-next_stop.next_stop in
    let order_reply = c.in_ok-order_reply.order_reply in
    record {
      ready = run_ready p key s journal copy now next_stop (run_answer p ok s journal name)
          order_reply c.in_ok-order_reply.ensures c.in_ok-next_stop.ensures;
      goes = λ (bodies : Bodies).
          ap (λ x. or_failed (run_answer p ok x journal name)
          (λ answer. walk p key bodies (left c.args.order.now answer) x journal))
          (sym c.in_ok-state.ensures)
          ∙ (ap (λ o. or_failed (run_answer p ok s journal name)
          (λ answer. walk p key bodies (left o answer) s journal)) (sym c.in_ok-order.ensures)
          ∙ run_goes p key s journal copy now next_stop (run_answer p ok s journal name) order_reply
          c.in_ok-order_reply.ensures c.in_ok-next_stop.ensures bodies);
    }
