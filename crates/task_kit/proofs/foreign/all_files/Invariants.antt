use Rattle.msb_laws.proofs.Collecting.{IsOk}
use Rattle.msb_laws.specs.Results.{all_ok}
use Rattle.task_kit.specs.Foreign.{file_at}
use Rattle.task_kit.proofs.foreign.all_files.Given as goal

abbrev pub invariant-loop-item : goal.invariant-loop-item
invariant-loop-item l = IsOk (file_at l.dir l.view) l.items l.item-index l.files
    (all_ok (file_at l.dir l.view) l.items)
