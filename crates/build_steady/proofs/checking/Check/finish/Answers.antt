use Rattle.std.proofs.Common.{◌≡◌, ◌<◌, length, None, IsSome, refl, ap, subst, rules, arith}
use Rattle.std.specs.Prelude.{vec_len}
use Rattle.result_cache.specs.Table.{found}
use Rattle.build_steady.specs.Findings.{AreUnlessSaid, Tells, with_record}
use Rattle.build_steady.specs.Order.{body_ends}
use Rattle.build_steady.proofs.Holding.{finish-goes, finish-said, popped, some-last}
use Rattle.build_steady.proofs.checking.Check.finish.Goals as goal

pub returns-in-Some-clause-turn : goal.returns-in-Some-clause-turn
returns-in-Some-clause-turn g c =
    let m = g.W.Walker in
    finish-said m.seen (m.seen c.args.walk).world c.args.self.now (m.seen c.args.walk).position
    c.args.run.now c.args.run_record c.in-Some.verdict c.end.new.self c.requires.held
    c.requires.asks (λ before shows. subst (Tells before (body_ends c.args.run.now
    c.args.run_record) c.end.new.self) c.in-Some.is (c.in_ok-verdict.ensures.told before shows))

pub returns-in-None-clause-turn : goal.returns-in-None-clause-turn
returns-in-None-clause-turn g c =
    let m = g.W.Walker in
    let check = c.args.self.now in
    let n : vec_len check.path ≡ length check.path.items = search rules in
    finish-goes m.seen (m.seen c.args.walk).world check _ c.args.walk c.args.run.now
    c.args.run_record c.requires.held c.requires.asking c.requires.asks
    (λ before shows. subst (Tells before (body_ends c.args.run.now c.args.run_record)
    c.end.new.self) c.in-None.is (c.in_ok-verdict.ensures.told before shows))
    (subst (AreUnlessSaid c.end.new.self.records.finished
    (with_record (found check.findings.records.finished c.args.run.now) c.args.run.now
    c.args.run_record check.findings.records.finished)) c.in-None.is
    c.in_ok-verdict.ensures.records) (record { callers = refl; asks = refl }) (λ x rest h. popped
    check.path.items c.pop.new.self.items c.pop.result x rest c.pop.ensures.items
    (c.pop.ensures.variant.1 (let l : 0 < length check.path.items =
    some-last check.path.items x rest h in omega (arith, n, l))) h)
