use Rattle.std.proofs.Common.{sym}
use Rattle.msb_elements.proofs.Growing.{not_missed}
use Rattle.msb_elements.proofs.attributes.missing.Goals as goal

pub returns-else-is_empty : goal.returns-else-is_empty
returns-else-is_empty c = rw c.in-Choose.is
    (not_missed c.args.attributes.now c.args.entries.now (sym c.if-is_empty.ensures))
