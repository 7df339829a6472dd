use Rattle.std.proofs.Common.{◌≡◌, ◌++◌, map, take}
use Rattle.task_msbuild.specs.Calls.{request_of}
use Rattle.task_msbuild.proofs.calls.push_calls.Given as goal

abbrev pub invariant-loop-targets : goal.invariant-loop-targets
invariant-loop-targets l = l.calls ≡ l.initial.calls
    ++ map (request_of l.instance) (take l.targets-index l.lists)
