use Rattle.std.proofs.Common.{◌≡◌, ◌++◌, option_map}
use Rattle.std.specs.Vec.Iter.{into_iter_items}
use Rattle.msb_laws.specs.Traverse.{traverse}
use Rattle.task_msbuild.specs.Parameters.{project_of}
use Rattle.task_msbuild.proofs.project.Project.all.Given as goal

abbrev pub invariant-loop-item : goal.invariant-loop-item
invariant-loop-item l = traverse (project_of l.fn.dir) l.fn.items
    ≡ option_map (λ ps. l.projects ++ ps)
    (traverse (project_of l.fn.dir) (into_iter_items l.item-iterator))
