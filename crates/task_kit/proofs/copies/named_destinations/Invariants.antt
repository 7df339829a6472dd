use Rattle.msb_laws.proofs.Collecting.{IsOk}
use Rattle.msb_laws.specs.Results.{all_ok}
use Rattle.task_kit.specs.Copies.{named_at}
use Rattle.task_kit.proofs.copies.named_destinations.Given as goal

abbrev pub invariant-loop-item : goal.invariant-loop-item
invariant-loop-item l = IsOk (named_at l.dir) l.items l.item-index l.all
    (all_ok (named_at l.dir) l.items)
