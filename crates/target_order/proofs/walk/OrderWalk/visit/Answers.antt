use Rattle.std.proofs.Common.{◌<◌, ◌≢◌, ℕ, length, sym, ap, ◌∙◌, subst}
use Rattle.target_order.specs.Search.{visit_at, IsSound}
use Rattle.target_order.specs.Steps.{visiting, IsPlace}
use Rattle.target_order.specs.Fields.{progress}
use Rattle.target_order.proofs.Sound.{visiting_sound, visiting_is}
use Rattle.target_order.proofs.walk.OrderWalk.visit.Goals as goal

pub invariant_of-self : goal.invariant_of-self
invariant_of-self c =
    let p = progress c.self.inside in
    let k = c.args.target in
    let depth = c.args.depth in
    let place = subst (λ q. IsPlace q depth c.args.step) (sym c.self.view_is) c.requires.place in
    let known = subst (λ q. k < length q.table.names) (sym c.self.view_is) c.requires.known in
    let apart = subst (λ q. (d : ℕ) → d < depth → (visit_at q.visits d).target ≢ k)
    (sym c.self.view_is) c.requires.apart in
    let is = visiting_is p depth c.args.step c.args.passed k c.in_ok-visits.visits c.push.new.self
    c.none.result c.request_passed-self-inside.result c.in_ok-push.ensures.ok
    c.in_ok-visits.ensures c.none.ensures c.request_passed-self-inside.ensures in
    subst (λ q. IsSound q c.in_ok-places.places) (sym is)
    (subst (λ places. IsSound (visiting p depth c.args.step c.args.passed k) places)
    (sym c.in_ok-places.ensures)
    (visiting_sound p c.self.inside.places depth c.args.step c.args.passed k c.self.invariant place
    known apart))

pub returns-clause-ok : goal.returns-clause-ok
returns-clause-ok c =
    let depth = c.args.depth in
    let step = c.args.step in
    let passed = c.args.passed in
    let k = c.args.target in
    visiting_is (progress c.self.inside) depth step passed k c.in_ok-visits.visits c.push.new.self
    c.none.result c.request_passed-self-inside.result c.in_ok-push.ensures.ok
    c.in_ok-visits.ensures c.none.ensures c.request_passed-self-inside.ensures
    ∙ ap (λ q. visiting q depth step passed k) c.self.view_is
