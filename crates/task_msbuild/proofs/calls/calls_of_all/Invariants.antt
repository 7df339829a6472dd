use Rattle.std.proofs.Common.{◌≡◌, ◌++◌, drop, map}
use Rattle.std.specs.List.{flat_map}
use Rattle.task_msbuild.specs.Calls.{instance_of, request_of}
use Rattle.task_msbuild.proofs.calls.calls_of_all.Given as goal

abbrev pub invariant-loop-project : goal.invariant-loop-project
invariant-loop-project l =
    l.calls ++ flat_map (λ project. map (request_of (instance_of l.shared project)) l.lists)
    (drop l.project-index l.projects)
    ≡ flat_map (λ project. map (request_of (instance_of l.shared project)) l.lists) l.projects
