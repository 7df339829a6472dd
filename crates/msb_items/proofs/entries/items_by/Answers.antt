use Rattle.std.proofs.Common.{◌∙◌, Ok, sym, ap}
use Rattle.msb_items.proofs.Plain.{all_alone}
use Rattle.msb_items.proofs.entries.items_by.Goals as goal

pub returns : goal.returns
returns g c = all_alone (g.F.Present.files c.args.files.now) c.args.project.now
    c.args.entries.now (sym c.has_pattern.ensures ∙ c.if-has_pattern.false)
    ∙ ap Ok (sym c.in_ok-copies_of.ensures)
