use Rattle.std.proofs.Common.{Some, option_map, ap, ◌∙◌}
use Rattle.file_store.specs.declared.tree.File.{File}
use Rattle.msb_files.specs.Views.{View, content}
use Rattle.msb_files.proofs.ViewSteps.{acted_content, tree_content}
use Rattle.msb_files.proofs.view.FileView.content.Goals as goal

pub returns-in-Some : goal.returns-in-Some
returns-in-Some c =
    let path = c.args.path.now in
    let view : View = record
    { files = c.self.inside.tree.now.files; journal = c.self.inside.journal.now } in
    c.bytes.ensures
    ∙ (acted_content view path c.in-Some.act.now c.in-Some.ensures
    ∙ ap (λ (v : View). content v path) c.self.view_is)

pub returns-in-Some-find : goal.returns-in-Some-find
returns-in-Some-find c =
    let path = c.args.path.now in
    let view : View = record
    { files = c.self.inside.tree.now.files; journal = c.self.inside.journal.now } in
    ap Some c.as_bytes.ensures ∙ (ap (option_map (λ (f : File). f.bytes)) c.in-Some-find.ensures
    ∙ (tree_content view path c.in-None.ensures ∙ ap (λ (v : View). content v path) c.self.view_is))

pub returns-in-None-find : goal.returns-in-None-find
returns-in-None-find c =
    let path = c.args.path.now in
    let view : View = record
    { files = c.self.inside.tree.now.files; journal = c.self.inside.journal.now } in
    ap (option_map (λ (f : File). f.bytes)) c.in-None-find.ensures
    ∙ (tree_content view path c.in-None.ensures ∙ ap (λ (v : View). content v path) c.self.view_is)
