use Rattle.std.proofs.Common.{sym}
use Rattle.msb_elements.specs.Rows.{row_of}
use Rattle.msb_elements.proofs.Twos.{none_apart}
use Rattle.msb_elements.proofs.clashes.clashing.Goals as goal

pub returns-then-not-keeps_apart : goal.returns-then-not-keeps_apart
returns-then-not-keeps_apart c = sym
    (none_apart (row_of c.args.kind).clashes c.args.attributes.now c.args.name.now c.args.rest.now
    (sym c.if-not-keeps_apart.ensures))
