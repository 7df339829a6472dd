use Rattle.std.proofs.Common.{reverse, sym, subst, ap, ◌∙◌}
use Rattle.std.proofs.lemmas.List.{reverse-reverse}
use Rattle.msb_files.specs.Indices.{IsByPath, last_act}
use Rattle.msb_files.proofs.layer.Layer.last_act.Goals as goal

pub last_act-requires : goal.last_act-requires
last_act-requires c = subst (λ es. IsByPath es c.places.result.now)
    (sym c.entries.ensures) c.places.ensures

pub returns : goal.returns
returns c =
    c.last_act.ensures ∙ ap (λ j. last_act j c.args.path.now)
    (ap reverse c.entries.ensures ∙ reverse-reverse c.args.self.now)
