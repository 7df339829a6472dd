use Rattle.msb_laws.proofs.Loops.{IsFront}
use Rattle.msb_laws.specs.Traverse.{traverse}
use Rattle.task_msbuild.specs.Parameters.{target_name}
use Rattle.task_msbuild.proofs.parameters.target_names.Given as goal

abbrev pub invariant-loop-entry : goal.invariant-loop-entry
invariant-loop-entry l = IsFront target_name l.entries l.entry-index l.names
    (traverse target_name l.entries)
