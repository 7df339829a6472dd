use Rattle.std.proofs.Common.{◌≡◌, is_some, ap, ◌∙◌, rules}
use Rattle.msb_files.specs.Indices.{last_act}
use Rattle.msb_files.specs.Views.{View, written}
use Rattle.msb_files.proofs.ViewSteps.{written_by}
use Rattle.msb_files.proofs.view.FileView.has_act.Goals as goal

pub returns : goal.returns
returns c =
    let path = c.args.path.now in
    let view : View = record
    { files = c.self.inside.tree.now.files; journal = c.self.inside.journal.now } in
    let is : c.is_some.result ≡ is_some (last_act view.journal path) = search rules in
    is ∙ (written_by view path ∙ ap (λ (v : View). written v path) c.self.view_is)
