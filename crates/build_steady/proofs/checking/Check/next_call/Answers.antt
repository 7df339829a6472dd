use Rattle.std.proofs.Common.{
  ◌≡◌,
  ◌≤◌,
  ◌<◌,
  length,
  get_or,
  refl,
  ap,
  sym,
  subst,
  ◌∙◌,
  rules,
  arith,
}
use Rattle.std.specs.Prelude.{vec_len}
use Rattle.result_cache.specs.declared.request.RequestKey.{RequestKey}
use Rattle.build_steady.specs.Findings.{Tells}
use Rattle.build_steady.specs.Held.{IsCheckStep}
use Rattle.build_steady.specs.Order.{is_reached}
use Rattle.build_steady.proofs.Holding.{next-calls, next-goes, next-open, next-resumes, next-said}
use Rattle.build_steady.proofs.checking.Check.next_call.Goals as goal

pub returns-then-begun-all-clause-turn : goal.returns-then-begun-all-clause-turn
returns-then-begun-all-clause-turn g c =
    let m = g.W.Walker in
    let seen = m.seen in
    let caller = c.args.caller in
    let n : vec_len caller.results ≡ length caller.results.items = search rules in
    let e : length caller.results.items ≡ length caller.calls = let a = c.len-begun.ensures in
    let b = c.len-all.ensures in let t = c.if-begun-all.true in omega (arith, n, a, b, t) in
    subst (IsCheckStep seen (m.seen caller.walk).world c.args.self.now) (sym c.resume.ensures)
    (next-resumes seen (m.seen caller.walk).world c.args.self.now caller c.requires e)

pub bounds-as_slice-begun : goal.bounds-as_slice-begun
bounds-as_slice-begun g c =
    let m = g.W.Walker in
    let seen = m.seen in
    let caller = c.args.caller in
    let n : vec_len caller.results ≡ length caller.results.items = search rules in
    let l = next-open seen (m.seen caller.walk).world c.args.self.now caller c.requires in
    let a = c.len-begun.ensures in
    let b = c.len-all.ensures in
    let t = c.if-begun-all.false in
    let s = ap length c.as_slice.ensures in omega (arith, n, l, a, b, t, s)

pub child-requires : goal.child-requires
child-requires g c =
    let m = g.W.Walker in
    let seen = m.seen in
    let caller = c.args.caller in
    let n : vec_len caller.results ≡ length caller.results.items = search rules in
    let o = next-open seen (m.seen caller.walk).world c.args.self.now caller c.requires in
    let a = c.len-begun.ensures in
    let b = c.len-all.ensures in
    let t = c.if-begun-all.false in
    let l : c.len-begun.result < length caller.calls = omega (arith, n, o, a, b, t) in
    let key : RequestKey = c.index-as_slice-begun.result in
    next-calls seen (m.seen caller.walk).world c.args.self.now caller key c.len-begun.result
    c.requires l (c.index-as_slice-begun.is ∙ ap (λ xs. get_or xs c.len-begun.result key)
    c.as_slice.ensures)

pub returns-in-Some-clause-turn : goal.returns-in-Some-clause-turn
returns-in-Some-clause-turn g c =
    let m = g.W.Walker in
    let seen = m.seen in
    let caller = c.args.caller in
    let n : vec_len caller.results ≡ length caller.results.items = search rules in
    let o = next-open seen (m.seen caller.walk).world c.args.self.now caller c.requires in
    let a = c.len-begun.ensures in
    let b = c.len-all.ensures in
    let t = c.if-begun-all.false in
    let l : length caller.results.items < length caller.calls = omega (arith, n, o, a, b, t) in
    let key : RequestKey = c.index-as_slice-begun.result in
    next-said seen (m.seen caller.walk).world c.args.self.now caller key c.in-Some.verdict
    c.reach.new.self c.requires l (c.index-as_slice-begun.is
    ∙ (ap (λ xs. get_or xs c.len-begun.result key) c.as_slice.ensures ∙ ap (λ i. get_or caller.calls
    i key) (c.len-begun.ensures ∙ n))) (λ before shows. subst (Tells before
    (is_reached key.instance) c.reach.new.self) c.in-Some.is (c.in_ok-verdict.ensures.told before
    shows))

pub returns-in_ok-push-in-None-clause-turn : goal.returns-in_ok-push-in-None-clause-turn
returns-in_ok-push-in-None-clause-turn g c =
    let m = g.W.Walker in
    let seen = m.seen in
    let caller = c.args.caller in
    let n : vec_len caller.results ≡ length caller.results.items = search rules in
    let o = next-open seen (m.seen caller.walk).world c.args.self.now caller c.requires in
    let a = c.len-begun.ensures in
    let b = c.len-all.ensures in
    let t = c.if-begun-all.false in
    let l : length caller.results.items < length caller.calls = omega (arith, n, o, a, b, t) in
    let key : RequestKey = c.index-as_slice-begun.result in
    next-goes seen (m.seen caller.walk).world c.args.self.now _ caller c.in_ok-child-in-None.child
    key c.requires l (c.index-as_slice-begun.is ∙ (ap (λ xs. get_or xs c.len-begun.result key)
    c.as_slice.ensures ∙ ap (λ i. get_or caller.calls i key) (c.len-begun.ensures ∙ n)))
    (λ before shows. subst (Tells before (is_reached key.instance) c.reach.new.self) c.in-None.is
    (c.in_ok-verdict.ensures.told before shows)) c.reach.ensures.records refl
    c.in_ok-push-in-None.ensures.items refl c.in_ok-child-in-None.ensures.world
    c.in_ok-child-in-None.ensures.begins c.in_ok-child-in-None.ensures.asked
    c.in_ok-child-in-None.ensures.learnt
