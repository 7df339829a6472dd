use Rattle.std.proofs.Common.{ap, sym, ◌∙◌, subst}
use Rattle.target_order.specs.Search.{IsProgress, IsSound}
use Rattle.target_order.specs.Steps.{restored}
use Rattle.target_order.proofs.Taking.{put_back_is}
use Rattle.target_order.proofs.walk.OrderWalk.go_through.Goals as goal

pub put_back-requires-clause-progress : goal.put_back-requires-clause-progress
put_back-requires-clause-progress c =
    let p = c.args.self.now in
    let undo = c.in_ok-undo.undo in
    let sound = subst (λ q. IsSound q c.self.inside.places) c.self.view_is c.self.invariant in
    let at = c.in-Err.ensures.kept ∙ c.in_ok-undo.ensures.taken in
    let back = ap (λ q. restored q undo) at ∙ put_back_is p c.args.step c.args.names undo
    c.in_ok-undo.ensures.undo in
    subst IsProgress (sym back) sound.progress

pub returns-in-Err-clause-kept : goal.returns-in-Err-clause-kept
returns-in-Err-clause-kept c =
    let p = c.args.self.now in
    let undo = c.in_ok-undo.undo in
    let at = c.in-Err.ensures.kept ∙ c.in_ok-undo.ensures.taken in
    c.put_back.ensures
    ∙ (ap (λ q. restored q undo) at ∙ put_back_is p c.args.step c.args.names undo
    c.in_ok-undo.ensures.undo)
