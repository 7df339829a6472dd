use Rattle.std.proofs.Common.{◌∙◌, refl}
use Rattle.task_kit.proofs.Acting.{makes}
use Rattle.task_kit.proofs.lines.output_written.Goals as goal

pub returns : goal.returns
returns c = c.in_ok-output_with.ensures.output _ (makes _ _ _ _ c.write_file-work.ensures)
    ∙ rw (c.new-progress.ensures, c.success-output.ensures, c.new.ensures) refl
