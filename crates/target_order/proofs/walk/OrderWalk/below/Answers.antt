use Rattle.std.proofs.Common.{◌-◌, ◌<◌, length, ap, ◌∙◌, arith}
use Rattle.target_order.specs.Progress.{list_at}
use Rattle.target_order.proofs.Stack.{below_is}
use Rattle.target_order.proofs.walk.OrderWalk.below.Goals as goal

pub returns-clause-place : goal.returns-clause-place
returns-clause-place c =
    let p = c.args.self.now in
    let d = c.args.depth - 1 in
    let lt : d < length p.visits = omega (arith, c.requires) in
    let v = c.top-visit.ensures.value in
    below_is p d c.args.depth _ (omega arith) lt (ap (λ u. u.step) v)
    (c.list_of.ensures ∙ ap (λ u. list_at p.table u.target u.names u.step) v)
    (ap (λ u. u.passed) v)
