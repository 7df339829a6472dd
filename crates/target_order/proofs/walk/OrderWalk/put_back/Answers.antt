use Rattle.std.proofs.Common.{◌<◌, List, length, ap, sym, ◌∙◌, subst}
use Rattle.target_order.specs.declared.visits.OpenVisit.{OpenVisit}
use Rattle.target_order.specs.Search.{IsSound, IsProgress}
use Rattle.target_order.specs.Steps.{restored, top_target}
use Rattle.target_order.specs.Fields.{progress}
use Rattle.target_order.proofs.Sound.{restored_sound}
use Rattle.target_order.proofs.walk.OrderWalk.put_back.Goals as goal

pub invariant_of-self : goal.invariant_of-self
invariant_of-self c =
    let p = progress c.self.inside in
    let undo = c.args.undo in
    let some = subst (λ q. 0 < length q.visits) (sym c.self.view_is) c.requires.some in
    let same = c.requires.same ∙ ap top_target (sym c.self.view_is) in
    let back = subst (λ q. IsProgress (restored q undo)) (sym c.self.view_is) c.requires.progress in
    subst
    (λ (vs : List OpenVisit).
    IsSound
    (record p { visits = vs; has_run = undo.has_run; asked = undo.asked; failed = undo.failed })
    c.self.inside.places)
    (sym c.replace_last.ensures.replaced)
    (restored_sound p c.self.inside.places undo c.self.invariant some same c.requires.within
    back)
