use Rattle.std.proofs.Common.{sym, ap, ◌∙◌, rules}
use Rattle.result_cache.specs.Journal.{has}
use Rattle.msb_files.specs.Layers.{all_of}
use Rattle.msb_files.proofs.Contents.{has-append}
use Rattle.msb_files.proofs.Indexed.{or_first, or_second}
use Rattle.msb_files.proofs.journal.Journal.has.Goals as goal

pub returns-then-has : goal.returns-then-has
returns-then-has c =
    let m = c.args.mark.now in
    let newer = c.self.inside.part in
    let older = all_of c.self.inside.layers in
    or_first c.has.result (has m newer) (has m older) c.has.ensures c.if-has.true
    ∙ (sym (has-append m newer older) ∙ ap (has m) c.self.view_is)

pub returns-else-has : goal.returns-else-has
returns-else-has c =
    let m = c.args.mark.now in
    let newer = c.self.inside.part in
    let older = all_of c.self.inside.layers in
    or_second c.has_mark.result c.has.result (has m newer) (has m older) c.has.ensures
    c.if-has.false (search rules) ∙ (sym (has-append m newer older) ∙ ap (has m) c.self.view_is)
