use Rattle.std.proofs.Common.{ap}
use Rattle.task_trait.specs.declared.failures.Failure.TheVariants.{NotText}
use Rattle.task_kit.proofs.Reading.{is_no_text, is_text}
use Rattle.task_kit.proofs.read.lines_of_bytes.Goals as goal

pub returns-in_ok-lines_output-in-Ok : goal.returns-in_ok-lines_output-in-Ok
returns-in_ok-lines_output-in-Ok c =
    is_text c.args.file.now c.args.bytes.now _ _ _ c.in-Ok.ensures.cases
    c.in_ok-lines_in-in-Ok.ensures c.in_ok-lines_output-in-Ok.ensures

pub returns-in_ok-of-in-Err : goal.returns-in_ok-of-in-Err
returns-in_ok-of-in-Err c =
    is_no_text c.args.file.now c.args.bytes.now _ c.in-Err.ensures.cases.0
    (ap NotText c.in_ok-of-in-Err.ensures)
