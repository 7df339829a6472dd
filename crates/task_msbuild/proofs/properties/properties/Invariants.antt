use Rattle.msb_laws.proofs.Loops.{IsFront}
use Rattle.task_msbuild.specs.GlobalProperties.{property_of, properties_of}
use Rattle.task_msbuild.proofs.properties.properties.Given as goal

abbrev pub invariant-loop-entry : goal.invariant-loop-entry
invariant-loop-entry l = IsFront property_of l.entries l.entry-index l.properties
    (properties_of l.entries)
