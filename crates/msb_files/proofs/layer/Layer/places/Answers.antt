use Rattle.std.proofs.Common.{reverse, sym, ap, ◌∙◌, subst}
use Rattle.std.proofs.lemmas.List.{reverse-reverse}
use Rattle.msb_files.specs.Indices.{IsByPath}
use Rattle.msb_files.proofs.layer.Layer.places.Goals as goal

pub returns : goal.returns
returns c =
    let entries = c.self.inside.entries.items in
    subst (λ es. IsByPath es c.deref.result.now)
    (sym (reverse-reverse entries) ∙ ap reverse c.self.view_is)
    (subst (λ ps. IsByPath entries ps) (sym c.deref.ensures.value) c.self.invariant.paths)
