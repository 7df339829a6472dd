use Rattle.std.proofs.Common.{◌∷◌, [], ◌++◌, take, ap, ◌∙◌}
use Rattle.request_machine.specs.Layers.{joined}
use Rattle.request_machine.proofs.Joining.{joined_split}
use Rattle.request_machine.proofs.shared.with_last.Goals as goal

pub returns : goal.returns
returns g c =
    let layers = c.args.layers.now in
    let kept = c.loop-kept.kept in
    ap joined (c.in_ok-push.ensures.ok
    ∙ (ap (λ ls. ls ++ c.in_ok-new.field-0 ∷ []) c.in_ok-all.ensures
    ∙ ap (λ l. take kept layers ++ l ∷ []) (c.in_ok-new.ensures ∙ c.loop-kept.invariant.0)))
    ∙ joined_split kept layers c.args.last
