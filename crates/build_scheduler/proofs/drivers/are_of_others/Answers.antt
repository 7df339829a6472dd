use Rattle.std.proofs.Common.{arith, ℕ, suc, ◌≡◌, ◌+◌, drop, take, ap, subst, ◌∙◌}
use Rattle.build_meaning.specs.Step.{whose}
use Rattle.build_meaning.specs.History.{AreOfOthers}
use Rattle.build_scheduler.proofs.OthersBehind.{others-none, others-more, take-whole}
use Rattle.build_scheduler.proofs.drivers.are_of_others.Goals as goal

pub loop-at-init : goal.loop-at-init
loop-at-init c = others-none c.args.events.now c.args.number c.args.id

pub loop-at-preserved : goal.loop-at-preserved
loop-at-preserved c =
    let events = c.args.events.now in
    let next : suc c.loop-at.at ≡ c.loop-at.at + 1 = omega arith in
    let event = c.index-events-at in
    subst (λ (n : ℕ). AreOfOthers c.args.id (drop c.args.number (take n events))) next
    (others-more events c.args.number c.loop-at.at c.args.id event.result c.loop-at.auto.at
    c.loop-at-test.true
    (λ e. c.if-request-id.false (c.request.ensures ∙ (ap whose event.is ∙ e)))
    c.loop-at.invariant)

pub returns : goal.returns
returns c _ = subst (λ l. AreOfOthers c.args.id (drop c.args.number l))
    (take-whole c.args.events.now c.loop-at.at c.loop-at-test.false) c.loop-at.invariant
