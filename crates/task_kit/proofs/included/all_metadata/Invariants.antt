use Rattle.msb_laws.proofs.Collecting.{IsOk}
use Rattle.msb_laws.specs.Results.{all_ok}
use Rattle.task_kit.specs.Included.{metadata_in}
use Rattle.task_kit.proofs.included.all_metadata.Given as goal

abbrev pub invariant-loop-entry : goal.invariant-loop-entry
invariant-loop-entry l = IsOk metadata_in l.entries l.entry-index l.all
    (all_ok metadata_in l.entries)
