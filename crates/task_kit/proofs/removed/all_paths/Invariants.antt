use Rattle.msb_laws.proofs.Collecting.{IsOk}
use Rattle.msb_laws.specs.Results.{all_ok}
use Rattle.task_kit.specs.Removed.{path_at}
use Rattle.task_kit.proofs.removed.all_paths.Given as goal

abbrev pub invariant-loop-item : goal.invariant-loop-item
invariant-loop-item l = IsOk (path_at l.dir) l.items l.item-index l.all
    (all_ok (path_at l.dir) l.items)
