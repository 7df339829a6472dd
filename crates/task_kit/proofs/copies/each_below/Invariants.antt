use Rattle.msb_laws.proofs.Collecting.{IsOk}
use Rattle.msb_laws.specs.Results.{all_ok}
use Rattle.task_kit.specs.Copies.{below_at}
use Rattle.task_kit.proofs.copies.each_below.Given as goal

abbrev pub invariant-loop-source : goal.invariant-loop-source
invariant-loop-source l = IsOk (below_at l.dir l.folder) l.sources l.source-index l.all
    (all_ok (below_at l.dir l.folder) l.sources)
