use Rattle.std.proofs.Common.{IfOk, refl, subst}
use Rattle.build_steady.specs.Held.{IsCheckStep}
use Rattle.build_steady.proofs.Holding.{held-own, step-held}
use Rattle.build_steady.proofs.checking.Check.step.Goals as goal

pub want-requires-clause-held : goal.want-requires-clause-held
want-requires-clause-held g c =
    let m = g.W.Walker in
    let seen = m.seen in
    let w = (m.seen c.args.walk).world in
    held-own seen w c.args.self.now c.args.walk c.advance.new.walk c.args.answer
    (m.seen c.advance.new.walk).position c.requires.turn c.in_ok-ask.ensures.world _
    (step-held seen w c.args.self.now _ c.args.walk c.advance.new.walk c.args.answer c.requires.turn
    refl refl refl refl c.in_ok-ask.ensures.goes_on)

pub call-requires-clause-held : goal.call-requires-clause-held
call-requires-clause-held g c =
    let m = g.W.Walker in
    let seen = m.seen in
    let w = (m.seen c.args.walk).world in
    held-own seen w c.args.self.now c.args.walk c.advance.new.walk c.args.answer
    (m.seen c.advance.new.walk).position c.requires.turn c.in_ok-ask.ensures.world _
    (step-held seen w c.args.self.now _ c.args.walk c.advance.new.walk c.args.answer c.requires.turn
    refl refl refl refl c.in_ok-ask.ensures.goes_on)

pub finish-requires-clause-held : goal.finish-requires-clause-held
finish-requires-clause-held g c =
    let m = g.W.Walker in
    let seen = m.seen in
    let w = (m.seen c.args.walk).world in
    held-own seen w c.args.self.now c.args.walk c.advance.new.walk c.args.answer
    (m.seen c.advance.new.walk).position c.requires.turn c.in_ok-ask.ensures.world _
    (step-held seen w c.args.self.now _ c.args.walk c.advance.new.walk c.args.answer c.requires.turn
    refl refl refl refl c.in_ok-ask.ensures.goes_on)

pub end_request-requires-clause-held : goal.end_request-requires-clause-held
end_request-requires-clause-held g c =
    let m = g.W.Walker in
    let seen = m.seen in
    let w = (m.seen c.args.walk).world in
    held-own seen w c.args.self.now c.args.walk c.advance.new.walk c.args.answer
    (m.seen c.advance.new.walk).position c.requires.turn c.in_ok-ask.ensures.world _
    (step-held seen w c.args.self.now _ c.args.walk c.advance.new.walk c.args.answer c.requires.turn
    refl refl refl refl c.in_ok-ask.ensures.goes_on)

pub returns-in-Want-clause-turn : goal.returns-in-Want-clause-turn
returns-in-Want-clause-turn g c =
    let m = g.W.Walker in
    subst (λ v. IfOk c.want.result (IsCheckStep m.seen v c.want.new.self)) c.in_ok-ask.ensures.world
    c.want.ensures.turn

pub returns-in-Call-clause-turn : goal.returns-in-Call-clause-turn
returns-in-Call-clause-turn g c =
    let m = g.W.Walker in
    subst (λ v. IfOk c.call.result (IsCheckStep m.seen v c.call.new.self)) c.in_ok-ask.ensures.world
    c.call.ensures.turn

pub returns-in-Finished-clause-turn : goal.returns-in-Finished-clause-turn
returns-in-Finished-clause-turn g c =
    let m = g.W.Walker in
    subst (λ v. IfOk c.finish.result (IsCheckStep m.seen v c.finish.new.self))
    c.in_ok-ask.ensures.world c.finish.ensures.turn

pub returns-clause-turn : goal.returns-clause-turn
returns-clause-turn g c =
    let m = g.W.Walker in
    subst (λ v. IfOk c.end_request.result (IsCheckStep m.seen v c.end_request.new.self))
    c.in_ok-ask.ensures.world c.end_request.ensures.turn
