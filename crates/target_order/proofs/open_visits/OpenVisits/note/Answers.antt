use Rattle.std.proofs.Common.{◌≡◌, ◌-◌, length, ap, ◌∙◌, rules, arith}
use Rattle.target_order.specs.Steps.{noted}
use Rattle.target_order.proofs.OpenVisits.{note_top}
use Rattle.target_order.proofs.open_visits.OpenVisits.note.Goals as goal

pub returns-then-self-gt0 : goal.returns-then-self-gt0
returns-then-self-gt0 c =
    let outer = c.self.inside.outer in
    let inner = c.self.inside.inner.items in
    let len : c.len-last.result ≡ length inner = search rules in
    note_top outer inner c.self.inside.count c.self.invariant c.args.step c.args.passed
    c.index_mut-visit.result.now (c.len-last.result - 1) (omega arith)
    c.index_mut-visit.ensures.value c.if-self-gt0.true
    ∙ ap (λ vs. noted vs (length vs) c.args.step c.args.passed) c.self.view_is
