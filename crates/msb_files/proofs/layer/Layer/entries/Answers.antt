use Rattle.std.proofs.Common.{reverse, sym, ap, ◌∙◌}
use Rattle.std.proofs.lemmas.List.{reverse-reverse}
use Rattle.msb_files.proofs.layer.Layer.entries.Goals as goal

pub returns : goal.returns
returns c = c.deref.ensures.value
    ∙ (sym (reverse-reverse c.self.inside.entries.items) ∙ ap reverse c.self.view_is)
