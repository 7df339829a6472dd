use Rattle.std.proofs.Common.{◌≡◌, ◌++◌, drop}
use Rattle.std.specs.List.{flat_map}
use Rattle.task_msbuild.specs.Plans.{missing_notes}
use Rattle.task_msbuild.proofs.planning.missing_notes.Given as goal

abbrev pub invariant-loop-project : goal.invariant-loop-project
invariant-loop-project l =
    l.notes ++ flat_map (missing_notes l.tree.files l.parameters.skip_missing)
    (drop l.project-index l.project-items)
    ≡ flat_map (missing_notes l.tree.files l.parameters.skip_missing) l.project-items
