use Rattle.std.proofs.lemmas.Result.{err_from_is_err_and}
use Rattle.msb_expand.specs.Entries.{reading_of}
use Rattle.msb_expand.specs.Scenes.{scene_of}
use Rattle.msb_expand.proofs.Listing.{entries_stop, entries_end}
use Rattle.msb_expand.proofs.Turns.{passed_on}
use Rattle.msb_expand.proofs.expansion.read_entries.Goals as goal

pub returns-in_err-read_parts : goal.returns-in_err-read_parts
returns-in_err-read_parts c =
    let scene = scene_of c.args.lens.now in
    let p = err_from_is_err_and c.from_residual.result c.from_residual.ensures.1 in
    rw (p.1, p.2)
    (passed_on _ _ _
    (λ f is. entries_stop scene c.args.expr.now.parts c.as_slice.result.now
    (reading_of c.new-reading.result) f c.as_slice.ensures c.new-reading.ensures is)
    c.in_err-read_parts.ensures)

pub returns : goal.returns
returns c =
    let scene = scene_of c.args.lens.now in
    rw
    (entries_end scene c.args.expr.now.parts c.as_slice.result.now
    (reading_of c.new-reading.result) (reading_of c.read_parts.new.reading)
    c.as_slice.ensures c.new-reading.ensures c.in_ok-read_parts.ensures)
    c.into_entries.ensures
