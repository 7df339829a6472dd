use Rattle.msb_files.proofs.MarkSteps.{one_more, stay_on_err}
use Rattle.msb_files.proofs.hashed.insert_mark.Goals as goal

pub returns-clause-ok : goal.returns-clause-ok
returns-clause-ok c = λ old is.
    one_more old c.args.marks.now c.insert.new.self c.args.entry.now c.in_ok-kept_mark.field-0
    c.in_ok-kept_mark.ensures is
    c.in_ok-insert.ensures.updates.0

pub returns-in_err-insert-clause-err : goal.returns-in_err-insert-clause-err
returns-in_err-insert-clause-err c =
    stay_on_err c.from_residual-in_err-insert.result c.args.marks.now c.insert.new.self
    c.in_err-insert.ensures.err
