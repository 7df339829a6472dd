use Rattle.std.proofs.Common.{◌≡◌, ◌++◌, drop}
use Rattle.std.specs.List.{flat_map}
use Rattle.task_msbuild.specs.Calls.{calls_of}
use Rattle.task_msbuild.proofs.calls.calls_of.Given as goal

abbrev pub invariant-loop-project : goal.invariant-loop-project
invariant-loop-project l =
    l.calls ++ flat_map (calls_of l.tree.files l.shared l.lists) (drop l.project-index l.projects)
    ≡ flat_map (calls_of l.tree.files l.shared l.lists) l.projects
