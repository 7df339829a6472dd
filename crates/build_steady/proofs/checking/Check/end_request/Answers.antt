use Rattle.std.proofs.Common.{◌≡◌, length, IfOk, ap, refl, sym, subst, ◌∙◌, rules, arith}
use Rattle.std.specs.Prelude.{vec_len}
use Rattle.build_steady.specs.Held.{last_first, IsCheckStep}
use Rattle.build_steady.proofs.Callers.{caller-world}
use Rattle.build_steady.proofs.Holding.{called-over, popped-last, ready-own, root-over}
use Rattle.build_steady.proofs.checking.Check.end_request.Goals as goal

pub returns-in-None-clause-turn : goal.returns-in-None-clause-turn
returns-in-None-clause-turn g c =
    let m = g.W.Walker in
    let check = c.args.self.now in
    let n : vec_len check.callers ≡ length check.callers.items = search rules in
    root-over m.seen (m.seen c.args.walk).world check (m.seen c.args.walk).position
    c.args.request_result c.requires.held c.requires.asks (sym n ∙ c.in-None.ensures.cases.0)

pub next_call-requires : goal.next_call-requires
next_call-requires g c =
    let m = g.W.Walker in
    let seen = m.seen in
    let w = (m.seen c.args.walk).world in
    let check = c.args.self.now in
    let told = c.in_ok-with_result-in-Some in
    ready-own seen w _ told.field-0 (called-over seen w check _ c.in-Some.caller told.field-0
    (m.seen c.args.walk).position c.args.request_result c.requires.held c.requires.asks
    (popped-last check.callers.items c.pop.new.self.items c.in-Some.caller c.in-Some.ensures.items)
    refl refl refl told.ensures.walk told.ensures.calls told.ensures.results)

pub returns-clause-turn : goal.returns-clause-turn
returns-clause-turn g c =
    let m = g.W.Walker in
    let seen = m.seen in
    let w = (m.seen c.args.walk).world in
    let check = c.args.self.now in
    let told = c.in_ok-with_result-in-Some in
    let same : (m.seen told.field-0.walk).world ≡ w =
    ap (λ walk. (m.seen walk).world) told.ensures.walk ∙ caller-world seen w check c.in-Some.caller
    (last_first c.pop.new.self.items) (m.seen c.args.walk).position c.requires.held
    (popped-last check.callers.items c.pop.new.self.items c.in-Some.caller
    c.in-Some.ensures.items) in
    subst (λ v. IfOk c.next_call.result (IsCheckStep seen v c.next_call.new.self)) same
    c.next_call.ensures.turn
