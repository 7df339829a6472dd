use Rattle.std.proofs.Common.{All, sym, subst}
use Rattle.engine_tests.specs.Trials.{IsAsking}
use Rattle.engine_tests.proofs.Others.{all-removed, asks-on}
use Rattle.engine_tests.proofs.any_order.next_of.Goals as goal

pub returns-then-at-len-clause-out : goal.returns-then-at-len-clause-out
returns-then-at-len-clause-out g c =
    let m = g.W.Walker in
    let core = c.args.core.now in
    let after = c.bring_back.new.core in
    let there = c.bring_back.ensures in
    subst (All (λ a. IsAsking (m.world_of after.world) after.history.events a.id a.number
    (m.seen a.walk) a.ask)) (sym c.remove-asking.ensures.items)
    (λ k d lt. asks-on (m.world_of core.world) (m.world_of after.world) core.history.events
    after.history.events _ _ _ _ there.world ∣ there.continues ∣₁
    (all-removed (λ a. IsAsking (m.world_of core.world) core.history.events a.id a.number
    (m.seen a.walk) a.ask) c.args.out.now.items _ c.requires.out k d lt))

pub returns-else-at-len-clause-out : goal.returns-else-at-len-clause-out
returns-else-at-len-clause-out g c =
    let m = g.W.Walker in
    let core = c.args.core.now in
    let after = c.assign_least.new.core in
    λ k d lt. asks-on (m.world_of core.world) (m.world_of after.world) core.history.events
    after.history.events _ _ _ _ c.assign_least.ensures.world c.assign_least.ensures.continues
    (c.requires.out k d lt)
