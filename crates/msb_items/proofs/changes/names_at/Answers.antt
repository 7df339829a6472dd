use Rattle.std.proofs.Common.{sym}
use Rattle.build_world.specs.Elements.{seen_element}
use Rattle.msb_glob.specs.FoldedNames.{folded_names}
use Rattle.msb_items.specs.ItemNames.{names_of}
use Rattle.msb_items.proofs.Telling.{told_at}
use Rattle.msb_items.proofs.changes.names_at.Goals as goal

pub returns : goal.returns
returns g c =
    let e = seen_element c.args.element.now in
    let project = c.args.context.now.project.now in
    rw (c.in_ok-entries.ensures, sym c.as_slice.ensures)
    (told_at e folded_names (names_of project c.as_slice.result.now) c.in-Err.cause c.fault.result
    c.in-Err.ensures c.fault.ensures)
