use Rattle.std.proofs.Common.{◌||◌, is_some, ◌∙◌, rules}
use Rattle.std.specs.List.{list_any}
use Rattle.msb_values.specs.Acts.{act_path}
use Rattle.msb_values.specs.declared.act.Act.{Act}
use Rattle.file_store.specs.declared.tree.File.{File}
use Rattle.msb_files.specs.Below.{has_file_below}
use Rattle.msb_files.specs.Views.{content, acts_of}
use Rattle.msb_files.proofs.Indexed.{or_first, or_second}
use Rattle.msb_files.proofs.PathLaws.{there_is}
use Rattle.msb_files.proofs.view.FileViewPresent.there.Goals as goal

pub returns-then-is_some : goal.returns-then-is_some
returns-then-is_some c =
    let view = c.args.self.now in
    let path = c.args.path.now in
    or_first c.is_some.result (is_some (content view path))
    (list_any (λ (file : File). has_file_below view path file.path) view.files
    || list_any (λ (act : Act). has_file_below view path (act_path act)) (acts_of view.journal))
    (search rules) c.if-is_some.true ∙ there_is view path

pub returns-else-is_some : goal.returns-else-is_some
returns-else-is_some c =
    let view = c.args.self.now in
    let path = c.args.path.now in
    or_second c.is_any_below.result c.is_some.result (is_some (content view path))
    (list_any (λ (file : File). has_file_below view path file.path) view.files
    || list_any (λ (act : Act). has_file_below view path (act_path act)) (acts_of view.journal))
    (search rules) c.if-is_some.false c.is_any_below.ensures ∙ there_is view path
