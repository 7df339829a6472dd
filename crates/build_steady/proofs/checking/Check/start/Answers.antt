use Rattle.std.proofs.Common.{refl, ap, ◌∙◌, subst}
use Rattle.build_steady.specs.Findings.{Tells}
use Rattle.build_steady.specs.Order.{is_reached}
use Rattle.build_steady.proofs.Holding.{start-goes, start-said, tells-told}
use Rattle.build_steady.proofs.checking.Check.start.Goals as goal

pub returns-in-Some-clause-turn : goal.returns-in-Some-clause-turn
returns-in-Some-clause-turn g c =
    let m = g.W.Walker in
    start-said m.seen (m.seen c.args.walk).world c.args.self.now.findings c.reach.new.self
    c.in-Some.verdict c.requires.findings (λ before shows. tells-told before
    (is_reached c.args.root.now) _ c.reach.new.self _ _ (ap is_reached c.requires.root) c.in-Some.is
    (c.in_ok-verdict.ensures.told before shows))

pub returns-in-None-clause-turn : goal.returns-in-None-clause-turn
returns-in-None-clause-turn g c =
    let m = g.W.Walker in
    start-goes m.seen (m.seen c.args.walk).world c.args.self.now _ c.args.walk c.requires.findings
    (λ before shows. tells-told before (is_reached c.args.root.now) _ c.reach.new.self _ _
    (ap is_reached c.requires.root) c.in-None.is (c.in_ok-verdict.ensures.told before shows))
    (ap (λ r. r.finished) c.reach.ensures.records ∙ c.requires.records) c.requires.path
    c.requires.callers c.requires.asks refl c.requires.begins c.requires.asked c.requires.learnt
