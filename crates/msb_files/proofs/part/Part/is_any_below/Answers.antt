use Rattle.std.proofs.Common.{[], ◌∷◌, ap, ◌∙◌}
use Rattle.std.specs.List.{list_any}
use Rattle.msb_values.specs.Acts.{act_path}
use Rattle.msb_values.specs.declared.act.Act.{Act}
use Rattle.msb_files.specs.Below.{has_file_below}
use Rattle.msb_files.specs.Views.{acts_of}
use Rattle.msb_files.proofs.PartSteps.{any_entry}
use Rattle.msb_files.proofs.part.Part.is_any_below.Goals as goal

pub returns : goal.returns
returns c =
    let test = λ (act : Act). has_file_below c.args.view.now c.args.folder.now (act_path act) in
    c.is_any_entry_below.ensures
    ∙ (ap (list_any (λ e. list_any test (acts_of (e ∷ [])))) c.deref.ensures.value
    ∙ (any_entry test c.self.inside.entries.items
    ∙ ap (λ j. list_any test (acts_of j)) c.self.view_is))
