use Rattle.std.proofs.Common.{sym, ap, ◌∙◌, rules}
use Rattle.std.specs.List.{list_any}
use Rattle.msb_values.specs.Acts.{act_path}
use Rattle.msb_values.specs.declared.act.Act.{Act}
use Rattle.msb_files.specs.Below.{has_file_below}
use Rattle.msb_files.specs.Layers.{all_of}
use Rattle.msb_files.specs.Views.{acts_of}
use Rattle.msb_files.proofs.Indexed.{or_first, or_second}
use Rattle.msb_files.proofs.PartSteps.{any-append}
use Rattle.msb_files.proofs.journal.Journal.is_any_below.Goals as goal

pub returns-then-is_any_below : goal.returns-then-is_any_below
returns-then-is_any_below c =
    let test = λ (act : Act). has_file_below c.args.view.now c.args.folder.now (act_path act) in
    let newer = c.self.inside.part in
    let older = all_of c.self.inside.layers in
    or_first c.is_any_below.result (list_any test (acts_of newer)) (list_any test (acts_of older))
    c.is_any_below.ensures c.if-is_any_below.true
    ∙ (sym (any-append test newer older) ∙ ap (λ j. list_any test (acts_of j)) c.self.view_is)

pub returns-else-is_any_below : goal.returns-else-is_any_below
returns-else-is_any_below c =
    let test = λ (act : Act). has_file_below c.args.view.now c.args.folder.now (act_path act) in
    let newer = c.self.inside.part in
    let older = all_of c.self.inside.layers in
    or_second c.is_any_below-else-is_any_below.result c.is_any_below.result
    (list_any test (acts_of newer)) (list_any test (acts_of older)) c.is_any_below.ensures
    c.if-is_any_below.false (search rules)
    ∙ (sym (any-append test newer older) ∙ ap (λ j. list_any test (acts_of j)) c.self.view_is)
