use Rattle.msb_laws.proofs.Loops.{IsFront}
use Rattle.msb_values.specs.Keys.{key_of}
use Rattle.task_msbuild.specs.GlobalProperties.{removed_of}
use Rattle.task_msbuild.proofs.properties.names.Given as goal

abbrev pub invariant-loop-entry : goal.invariant-loop-entry
invariant-loop-entry l = IsFront key_of l.entries l.entry-index l.names (removed_of l.entries)
