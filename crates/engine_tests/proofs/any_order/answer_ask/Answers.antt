use Rattle.build_scheduler.proofs.Replying.{claim-event, over-event, result-event, wait-event}
use Rattle.engine_tests.proofs.Others.{own-continues}
use Rattle.engine_tests.proofs.any_order.answer_ask.Goals as goal

pub returns-in-GoesOn-clause-continues : goal.returns-in-GoesOn-clause-continues
returns-in-GoesOn-clause-continues g c =
    let core = c.args.core.now in
    let after = c.answer_ask.new.self in
    let reply = c.in-GoesOn.ensures.reply in
    own-continues core.history.events after.history.events c.args.id
    (claim-event core.history.events after.history.events c.args.id c.args.ask c.in-GoesOn.answer
    reply.0)

pub returns-in-UsesOwn-clause-continues : goal.returns-in-UsesOwn-clause-continues
returns-in-UsesOwn-clause-continues g c =
    let core = c.args.core.now in
    let after = c.answer_ask.new.self in
    let reply = c.in-UsesOwn.ensures.reply in
    own-continues core.history.events after.history.events c.args.id
    (result-event core.history.events after.history.events c.args.id c.args.ask reply.0)

pub returns-in-Waits-clause-continues : goal.returns-in-Waits-clause-continues
returns-in-Waits-clause-continues g c =
    let core = c.args.core.now in
    let after = c.answer_ask.new.self in
    let reply = c.in-Waits.ensures.reply in
    own-continues core.history.events after.history.events c.args.id
    (wait-event core.history.events after.history.events c.args.id c.args.ask reply.0)

pub returns-in-Over-clause-continues : goal.returns-in-Over-clause-continues
returns-in-Over-clause-continues g c =
    let core = c.args.core.now in
    let after = c.answer_ask.new.self in
    let reply = c.in-Over.ensures.reply in
    own-continues core.history.events after.history.events c.args.id
    (over-event core.history.events after.history.events c.args.id c.args.ask after.end reply.0)
