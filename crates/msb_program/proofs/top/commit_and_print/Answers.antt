use Rattle.std.proofs.Common.{List, Some, get_or, sym, ap, ◌∙◌}
use Rattle.std.proofs.lemmas.Option.{slice_get-get_or}
use Rattle.msb_values.specs.declared.act.Act.{Act}
use Rattle.msb_program.proofs.Committing.{completion_of, failed_ends}
use Rattle.msb_program.proofs.top.commit_and_print.Goals as goal

pub returns-in-Err-Writing : goal.returns-in-Err-Writing
returns-in-Err-Writing g c =
    let o = c.args.outcome.now in
    let place = c.in-Err-Writing.place in
    let act = c.index-as_slice-place.result in
    let within = rw c.in-Err-Writing.field-0-is at c.in-Err-Writing.ensures.place in
    let done = rw c.in-Err-Writing.field-0-is at c.in-Err-Writing.ensures.part in
    let rose = rw c.in-Err-Writing.field-0-is at c.in-Err-Writing.ensures.cause in
    failed_ends o _ _ (completion_of o.status c.if-outcome-gt1.false c.requires)
    c.print_write_fault.result place act
    (slice_get-get_or o.commit place act within
    ∙ ap (λ (list : List Act). Some (get_or list place act)) (sym c.as_slice.ensures)
    ∙ ap Some (sym c.index-as_slice-place.is))
    (record { within = within; done = done }) rose
    (rw c.path.ensures at c.print_write_fault.ensures)
