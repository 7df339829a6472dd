use Rattle.std.proofs.Common.{reverse, ap, ◌∙◌}
use Rattle.result_cache.specs.Journal.{has}
use Rattle.msb_files.proofs.layer.Layer.has.Goals as goal

pub returns : goal.returns
returns c =
    c.has_mark.ensures (reverse c.self.inside.entries.items) c.self.invariant.marks
    ∙ ap (has c.args.mark.now) c.self.view_is
