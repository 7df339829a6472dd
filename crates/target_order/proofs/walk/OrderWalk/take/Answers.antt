use Rattle.std.proofs.Common.{◌≡◌, ◌-◌, true, ap, sym, ◌∙◌, subst}
use Rattle.target_order.specs.Search.{visit_at, asks_visit, IsSound}
use Rattle.target_order.specs.Fields.{progress}
use Rattle.target_order.proofs.Sound.{taken_sound, taken_is, waits_still}
use Rattle.target_order.proofs.walk.OrderWalk.take.Goals as goal

pub invariant_of-self : goal.invariant_of-self
invariant_of-self c =
    let p = progress c.self.inside in
    let asked : asks_visit p.asked ≡ true = ap (λ q. asks_visit q.asked) c.self.view_is
    ∙ c.requires.asked in
    let top = c.get.ensures ∙ ap (λ n. visit_at p.visits (n - 1)) c.len-top.ensures in
    let run = c.replace.ensures.after ∙ c.in_ok-has_run.ensures in
    subst (λ q. IsSound q c.self.inside.places)
    (sym
    (taken_is p c.args.step c.args.names c.get.result.now c.replace_last.new.self
    c.replace.new.dest c.is_errors.result top c.replace_last.ensures.replaced run
    c.is_errors.ensures))
    (taken_sound p c.self.inside.places c.args.step c.args.names c.self.invariant asked
    (waits_still p.asked asked) c.requires.within)
