use Rattle.std.proofs.Common.{reverse, sym, subst, ap, ◌∙◌}
use Rattle.std.specs.List.{list_any}
use Rattle.std.proofs.lemmas.List.{reverse-reverse}
use Rattle.msb_values.specs.Acts.{act_path}
use Rattle.msb_values.specs.declared.act.Act.{Act}
use Rattle.msb_files.specs.Below.{has_file_below}
use Rattle.msb_files.specs.Indices.{IsByPath}
use Rattle.msb_files.specs.Views.{acts_of}
use Rattle.msb_files.proofs.layer.Layer.is_any_below.Goals as goal

pub is_any_below-requires : goal.is_any_below-requires
is_any_below-requires c = subst (λ es. IsByPath es c.places.result.now)
    (sym c.entries.ensures) c.places.ensures

pub returns : goal.returns
returns c =
    let test = λ (act : Act). has_file_below c.args.view.now c.args.folder.now (act_path act) in
    c.is_any_below.ensures
    ∙ ap (λ j. list_any test (acts_of j))
    (ap reverse c.entries.ensures ∙ reverse-reverse c.args.self.now)
