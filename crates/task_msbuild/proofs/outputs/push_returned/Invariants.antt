use Rattle.std.proofs.Common.{◌≡◌, ◌++◌, drop}
use Rattle.std.specs.List.{flat_map}
use Rattle.task_msbuild.specs.Gathered.{output_items}
use Rattle.task_msbuild.proofs.outputs.push_returned.Given as goal

abbrev pub invariant-loop-target : goal.invariant-loop-target
invariant-loop-target l = l.items ++ flat_map (output_items l.key) (drop l.target-index l.returned)
    ≡ l.initial.items ++ flat_map (output_items l.key) l.returned
