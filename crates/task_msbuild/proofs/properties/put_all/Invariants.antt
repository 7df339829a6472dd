use Rattle.std.proofs.Common.{◌≡◌, drop}
use Rattle.msb_values.specs.Pairs.{all_put}
use Rattle.task_msbuild.proofs.properties.put_all.Given as goal

abbrev pub invariant-loop-name : goal.invariant-loop-name
invariant-loop-name l = all_put l.globals (drop l.name-index l.properties)
    ≡ all_put l.initial.globals l.properties
