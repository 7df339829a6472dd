use Rattle.std.proofs.Common.{◌≡◌, ◌-◌, ◌<◌, ◌++◌, length, set, sym, ap, ◌∙◌, subst, rules}
use Rattle.target_order.specs.Chunks.{joined}
use Rattle.target_order.proofs.OpenVisits.{set_top}
use Rattle.target_order.proofs.open_visits.OpenVisits.replace_last.Goals as goal

pub returns-clause-replaced : goal.returns-clause-replaced
returns-clause-replaced c =
    let outer = c.self.inside.outer in
    let inner = c.self.inside.inner.items in
    let len : c.len-last.result ≡ length inner = search rules in
    let some : 0 < c.self.inside.count = subst (λ n. 0 < n)
    (sym (c.self.invariant.counted ∙ ap length c.self.view_is)) c.requires in
    ap (λ n. joined outer ++ set inner (n - 1) c.replace.new.dest) len
    ∙ (ap (λ v. joined outer ++ set inner (length inner - 1) v) c.replace.ensures.after
    ∙ (set_top outer inner c.self.inside.count c.self.invariant c.args.visit some
    ∙ ap (λ vs. set vs (length vs - 1) c.args.visit) c.self.view_is))
