use Rattle.std.proofs.lemmas.Result.{err_from_is_err_and}
use Rattle.file_store.proofs.FirstFaults.{first_is, first_further}
use Rattle.file_store.proofs.limits.check_entries.Goals as goal

pub returns-in_err-check_entry : goal.returns-in_err-check_entry
returns-in_err-check_entry c =
    let p = err_from_is_err_and c.from_residual.result c.from_residual.ensures.1 in
    rw (p.1, p.2)
    (first_is c.args.entries.now c.loop-entry.entry-index c.entry-item.result _
    (record
    { left = c.loop-entry.invariant; within = c.loop-entry-test.true; entry = c.entry-item.is })
    c.in_err-check_entry.ensures)

pub loop-entry-preserved : goal.loop-entry-preserved
loop-entry-preserved c =
    first_further c.args.entries.now c.loop-entry.entry-index c.entry-item.result
    (record
    { left = c.loop-entry.invariant; within = c.loop-entry-test.true; entry = c.entry-item.is })
    c.in_ok-check_entry.ensures
