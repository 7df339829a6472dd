use Rattle.std.proofs.Common.{◌≡◌, ◌-◌, ◌++◌, length, take, ap, ◌∙◌, rules, arith}
use Rattle.target_order.specs.Chunks.{joined}
use Rattle.target_order.proofs.OpenVisits.{in_chunks, through_inner}
use Rattle.target_order.proofs.open_visits.OpenVisits.through.Goals as goal

pub returns-in_ok-of : goal.returns-in_ok-of
returns-in_ok-of c =
    let outer = c.self.inside.outer in
    let inner = c.self.inside.inner.items in
    let depth = c.args.depth in
    let len : c.len.result ≡ length inner = search rules in
    let chunks = in_chunks outer inner c.self.inside.count c.self.invariant in
    let from : c.self.inside.count - c.len.result ≡ length (joined outer) = omega arith in
    let part = c.into_vec.ensures
    ∙ (c.in_ok-of.ensures
    ∙ (ap (take (depth - (c.self.inside.count - c.len.result))) c.deref.ensures.value
    ∙ ap (λ n. take (depth - n) inner) from)) in
    ap (λ cs. joined cs ++ c.into_vec.result.items) c.in_ok-copy.ensures
    ∙ (ap (λ vs. joined outer ++ vs) part
    ∙ (through_inner outer inner depth (let h = c.if-depth-outer.true in omega arith)
    ∙ ap (take depth) c.self.view_is))
