use Rattle.msb_laws.proofs.Loops.{IsFront}
use Rattle.msb_laws.specs.Traverse.{traverse}
use Rattle.task_msbuild.specs.Parameters.{project_item}
use Rattle.task_msbuild.proofs.project.ProjectItem.all.Given as goal

abbrev pub invariant-loop-item : goal.invariant-loop-item
invariant-loop-item l = IsFront project_item l.items l.item-index l.asked
    (traverse project_item l.items)
