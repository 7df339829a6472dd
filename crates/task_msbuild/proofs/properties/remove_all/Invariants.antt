use Rattle.std.proofs.Common.{◌≡◌, drop}
use Rattle.task_msbuild.specs.GlobalProperties.{without_names}
use Rattle.task_msbuild.proofs.properties.remove_all.Given as goal

abbrev pub invariant-loop-name : goal.invariant-loop-name
invariant-loop-name l = without_names (drop l.name-index l.names) l.globals
    ≡ without_names l.names l.initial.globals
