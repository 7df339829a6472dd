use Rattle.std.proofs.Common.{◌≡◌, ◌≤◌, ◌<◌, ◌+◌, length, subst, sym, ap, ◌∙◌, rules, arith}
use Rattle.std.specs.Prelude.{vec_len}
use Rattle.build_meaning.specs.Meaning.{deepest}
use Rattle.build_steady.proofs.Holding.{call-ready, call-too-deep, some-called}
use Rattle.build_steady.proofs.checking.Check.call.Goals as goal

pub too_deep-requires : goal.too_deep-requires
too_deep-requires g c =
    let m = g.W.Walker in
    let l : 0 < length c.args.calls = some-called m.seen (m.seen c.args.walk).world c.args.self.now
    (m.seen c.args.walk).position c.args.calls c.requires.held c.requires.asks in
    let e = ap length c.as_slice.ensures in omega (arith, l, e)

pub returns-then-len-ge-MOST_CALLERS-clause-turn : goal.returns-then-len-ge-MOST_CALLERS-clause-turn
unfolding deepest
returns-then-len-ge-MOST_CALLERS-clause-turn g c =
    let m = g.W.Walker in
    let check = c.args.self.now in
    let n : vec_len check.callers ≡ length check.callers.items = search rules in
    let deep : deepest ≤ length check.callers.items + 1 = let a = c.if-len-ge-MOST_CALLERS.true in
    let b = c.len.ensures in omega (arith, n, a, b) in
    call-too-deep m.seen (m.seen c.args.walk).world check (m.seen c.args.walk).position c.args.calls
    c.in_ok-too_deep.field-0 c.requires.held c.requires.asks deep
    (λ key more e. c.in_ok-too_deep.ensures key more (c.as_slice.ensures ∙ e))

pub next_call-requires : goal.next_call-requires
unfolding deepest
next_call-requires g c =
    let m = g.W.Walker in
    let check = c.args.self.now in
    let n : vec_len check.callers ≡ length check.callers.items = search rules in
    let shallow : length check.callers.items + 1 < deepest = let a =
    c.if-len-ge-MOST_CALLERS.false in let b = c.len.ensures in omega (arith, n, a, b) in
    call-ready m.seen (m.seen c.args.walk).world check _ c.requires.held c.requires.asking
    c.requires.asks c.new-results.ensures.items shallow
