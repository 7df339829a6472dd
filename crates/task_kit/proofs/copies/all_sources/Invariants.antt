use Rattle.msb_laws.proofs.Collecting.{IsOk}
use Rattle.msb_laws.specs.Results.{all_ok}
use Rattle.task_kit.specs.Copies.{source_at}
use Rattle.task_kit.proofs.copies.all_sources.Given as goal

abbrev pub invariant-loop-item : goal.invariant-loop-item
invariant-loop-item l = IsOk (source_at l.dir) l.items l.item-index l.all
    (all_ok (source_at l.dir) l.items)
