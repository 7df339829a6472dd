use Rattle.std.proofs.Common.{◌≡◌, ◌++◌, drop, length}
use Rattle.std.specs.List.{flat_map, zip}
use Rattle.task_msbuild.specs.Gathered.{call_notes}
use Rattle.task_msbuild.proofs.gathering.failures.Given as goal

abbrev pub invariant-loop-key : goal.invariant-loop-key
invariant-loop-key l =
    l.notes
    ++ flat_map call_notes
    (zip (drop (length l.yielded) l.calls) (drop (length l.yielded) l.results))
    ≡ flat_map call_notes (zip l.calls l.results)
