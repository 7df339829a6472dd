use Rattle.std.proofs.Common.{◌++◌, reverse, take, ap, ◌∙◌}
use Rattle.result_cache.specs.Journal.{has}
use Rattle.msb_files.proofs.PartSteps.{one_reversed}
use Rattle.msb_files.proofs.hashed.insert_marks.Goals as goal

pub loop-entry-preserved : goal.loop-entry-preserved
loop-entry-preserved c = λ old is m.
    let entries = c.args.entries.now in
    let i = c.loop-entry.entry-index in
    c.in_ok-insert_mark.ensures.ok (reverse (take i entries) ++ old)
    (c.loop-entry.invariant old is) m
    ∙ ap (has m) (one_reversed entries i c.entry-item.result old c.loop-entry-test.true
    c.entry-item.is)
