use Rattle.std.proofs.Common.{subst, sym, ◌∙◌}
use Rattle.build_scheduler.specs.declared.walker.Answer.TheVariants.{Use}
use Rattle.build_scheduler.specs.Drivers.{IsLegal}
use Rattle.build_scheduler.specs.Own.{IsOwn}
use Rattle.build_scheduler.proofs.Replying.{claim-event, over-event, result-event, wait-event}
use Rattle.build_plain.proofs.Driving.{drives-none}
use Rattle.build_plain.proofs.OneAtATime.{legal-of}
use Rattle.build_plain.proofs.Replied.{
  over-free,
  over-uses,
  own-drives,
  own-grows,
  own-turn,
  own-uses,
  stopped-free,
  wait-free,
  wait-uses,
}
use Rattle.build_plain.proofs.Using.{stopped-uses, uses-none}
use Rattle.build_plain.proofs.alone.answer_ask.Goals as goal

pub returns-in-GoesOn-clause-drives : goal.returns-in-GoesOn-clause-drives
returns-in-GoesOn-clause-drives g c =
    let m = g.W.Walker in
    let core = c.args.core.now in
    let after = c.answer_ask.new.self in
    let reply = c.in-GoesOn.ensures.reply in
    own-drives (m.world_of core.world) core.history.events after.history.events c.args.id
    (claim-event core.history.events after.history.events c.args.id c.args.ask c.in-GoesOn.answer
    reply.0)

pub returns-in-GoesOn-clause-grows : goal.returns-in-GoesOn-clause-grows
returns-in-GoesOn-clause-grows g c =
    let m = g.W.Walker in
    let core = c.args.core.now in
    let after = c.answer_ask.new.self in
    let reply = c.in-GoesOn.ensures.reply in
    own-grows (m.world_of core.world) core.history.events after.history.events c.args.id
    (claim-event core.history.events after.history.events c.args.id c.args.ask c.in-GoesOn.answer
    reply.0)

pub returns-in-GoesOn-clause-turn : goal.returns-in-GoesOn-clause-turn
returns-in-GoesOn-clause-turn g c =
    let m = g.W.Walker in
    let core = c.args.core.now in
    let after = c.answer_ask.new.self in
    let reply = c.in-GoesOn.ensures.reply in
    own-turn (m.world_of core.world) core.history.events after.history.events c.args.id
    (legal-of m.seen (m.world_of core.world) core.legal) c.requires.only
    (claim-event core.history.events after.history.events c.args.id c.args.ask c.in-GoesOn.answer
    reply.0) m.seen after.table.finished after.end c.in-GoesOn.walk c.in-GoesOn.answer reply.1
    reply.3

pub returns-in-GoesOn-clause-uses : goal.returns-in-GoesOn-clause-uses
returns-in-GoesOn-clause-uses g c =
    let m = g.W.Walker in
    let core = c.args.core.now in
    let after = c.answer_ask.new.self in
    let reply = c.in-GoesOn.ensures.reply in
    own-uses (m.world_of core.world) core.history.events after.history.events c.args.id
    core.table.finished (m.seen c.in-GoesOn.walk) (subst (λ walk. ∥ IsOwn (m.world_of core.world)
    core.history.events core.table.finished c.args.id (m.seen walk) ∥₁) (sym reply.2)
    c.requires.own) (claim-event core.history.events after.history.events c.args.id c.args.ask
    c.in-GoesOn.answer reply.0) after.table.finished c.in-GoesOn.answer reply.3

pub returns-in-UsesOwn-clause-drives : goal.returns-in-UsesOwn-clause-drives
returns-in-UsesOwn-clause-drives g c =
    let m = g.W.Walker in
    let core = c.args.core.now in
    let after = c.answer_ask.new.self in
    let reply = c.in-UsesOwn.ensures.reply in
    own-drives (m.world_of core.world) core.history.events after.history.events c.args.id
    (result-event core.history.events after.history.events c.args.id c.args.ask reply.0)

pub returns-in-UsesOwn-clause-grows : goal.returns-in-UsesOwn-clause-grows
returns-in-UsesOwn-clause-grows g c =
    let m = g.W.Walker in
    let core = c.args.core.now in
    let after = c.answer_ask.new.self in
    let reply = c.in-UsesOwn.ensures.reply in
    own-grows (m.world_of core.world) core.history.events after.history.events c.args.id
    (result-event core.history.events after.history.events c.args.id c.args.ask reply.0)

pub returns-in-UsesOwn-clause-turn : goal.returns-in-UsesOwn-clause-turn
returns-in-UsesOwn-clause-turn g c =
    let m = g.W.Walker in
    let core = c.args.core.now in
    let after = c.answer_ask.new.self in
    let reply = c.in-UsesOwn.ensures.reply in
    own-turn (m.world_of core.world) core.history.events after.history.events c.args.id
    (legal-of m.seen (m.world_of core.world) core.legal) c.requires.only
    (result-event core.history.events after.history.events c.args.id c.args.ask reply.0) m.seen
    after.table.finished after.end c.in-UsesOwn.walk Use reply.1 reply.3

pub returns-in-UsesOwn-clause-uses : goal.returns-in-UsesOwn-clause-uses
returns-in-UsesOwn-clause-uses g c =
    let m = g.W.Walker in
    let core = c.args.core.now in
    let after = c.answer_ask.new.self in
    let reply = c.in-UsesOwn.ensures.reply in
    own-uses (m.world_of core.world) core.history.events after.history.events c.args.id
    core.table.finished (m.seen c.in-UsesOwn.walk) (subst (λ walk. ∥ IsOwn (m.world_of core.world)
    core.history.events core.table.finished c.args.id (m.seen walk) ∥₁) (sym reply.2)
    c.requires.own) (result-event core.history.events after.history.events c.args.id c.args.ask
    reply.0) after.table.finished Use reply.3

pub returns-in-Waits-clause-drives : goal.returns-in-Waits-clause-drives
returns-in-Waits-clause-drives g c =
    let m = g.W.Walker in
    let core = c.args.core.now in
    let after = c.answer_ask.new.self in
    let reply = c.in-Waits.ensures.reply in
    own-drives (m.world_of core.world) core.history.events after.history.events c.args.id
    (wait-event core.history.events after.history.events c.args.id c.args.ask reply.0)

pub returns-in-Waits-clause-turn : goal.returns-in-Waits-clause-turn
returns-in-Waits-clause-turn g c =
    let m = g.W.Walker in
    let core = c.args.core.now in
    let after = c.answer_ask.new.self in
    let reply = c.in-Waits.ensures.reply in
    wait-free (m.world_of core.world) core.history.events after.history.events c.args.id
    (legal-of m.seen (m.world_of core.world) core.legal) c.requires.only c.args.ask reply.0
    after.end

pub returns-in-Waits-clause-uses : goal.returns-in-Waits-clause-uses
returns-in-Waits-clause-uses g c =
    let m = g.W.Walker in
    let core = c.args.core.now in
    let after = c.answer_ask.new.self in
    let reply = c.in-Waits.ensures.reply in
    wait-uses (m.world_of core.world) core.history.events after.history.events c.args.id
    core.table.finished (m.seen c.args.walk) c.requires.own c.args.ask reply.0
    (subst (λ w. ∥ IsLegal w after.history.events ∥₁) c.answer_ask.ensures.world
    (legal-of m.seen (m.world_of after.world) after.legal))

pub returns-in-Over-clause-drives : goal.returns-in-Over-clause-drives
returns-in-Over-clause-drives g c =
    let m = g.W.Walker in
    let core = c.args.core.now in
    let after = c.answer_ask.new.self in
    let reply = c.in-Over.ensures.reply in
    own-drives (m.world_of core.world) core.history.events after.history.events c.args.id
    (over-event core.history.events after.history.events c.args.id c.args.ask after.end reply.0)

pub returns-in-Over-clause-turn : goal.returns-in-Over-clause-turn
returns-in-Over-clause-turn g c =
    let m = g.W.Walker in
    let core = c.args.core.now in
    let after = c.answer_ask.new.self in
    let reply = c.in-Over.ensures.reply in
    over-free (m.world_of core.world) core.history.events after.history.events c.args.id
    (legal-of m.seen (m.world_of core.world) core.legal) c.requires.only c.args.ask after.end
    reply.0

pub returns-in-Over-clause-uses : goal.returns-in-Over-clause-uses
returns-in-Over-clause-uses g c =
    let m = g.W.Walker in
    let core = c.args.core.now in
    let after = c.answer_ask.new.self in
    let reply = c.in-Over.ensures.reply in
    over-uses (m.world_of core.world) core.history.events after.history.events c.args.id
    core.table.finished (m.seen c.args.walk) c.requires.own c.args.ask after.end reply.0
    (subst (λ w. ∥ IsLegal w after.history.events ∥₁) c.answer_ask.ensures.world
    (legal-of m.seen (m.world_of after.world) after.legal))

pub returns-in-Stopped-clause-drives : goal.returns-in-Stopped-clause-drives
returns-in-Stopped-clause-drives g c =
    let m = g.W.Walker in
    let core = c.args.core.now in
    let after = c.answer_ask.new.self in
    let reply = c.in-Stopped.ensures.reply in
    drives-none (m.world_of core.world) core.history.events after.history.events reply.1

pub returns-in-Stopped-clause-turn : goal.returns-in-Stopped-clause-turn
returns-in-Stopped-clause-turn g c =
    let m = g.W.Walker in
    let core = c.args.core.now in
    let after = c.answer_ask.new.self in
    let reply = c.in-Stopped.ensures.reply in
    stopped-free (m.world_of core.world) core.history.events after.history.events c.args.id
    c.args.ask after.end reply.0

pub returns-in-Stopped-clause-uses : goal.returns-in-Stopped-clause-uses
returns-in-Stopped-clause-uses g c =
    let m = g.W.Walker in
    let core = c.args.core.now in
    let after = c.answer_ask.new.self in
    let reply = c.in-Stopped.ensures.reply in
    ∣ uses-none (m.world_of core.world) core.history.events after.history.events _ reply.1 ∣₁

pub returns-clause-drives : goal.returns-clause-drives
returns-clause-drives g c =
    let m = g.W.Walker in
    let core = c.args.core.now in
    let after = c.answer_ask.new.self in
    let reply = c.in-NoMemory.ensures.reply in
    drives-none (m.world_of core.world) core.history.events c.stop.new.core.history.events
    (c.stop.ensures.history ∙ reply.3)

pub returns-clause-uses : goal.returns-clause-uses
returns-clause-uses g c =
    let m = g.W.Walker in
    let core = c.args.core.now in
    let after = c.answer_ask.new.self in
    let reply = c.in-NoMemory.ensures.reply in
    stopped-uses m.seen (m.world_of core.world) core.history.events c.stop.new.core.history.events
    c.stop.new.core.table.finished c.stop.result (c.stop.ensures.history ∙ reply.3)
    c.stop.ensures.turn
