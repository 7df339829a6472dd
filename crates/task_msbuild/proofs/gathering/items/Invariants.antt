use Rattle.std.proofs.Common.{◌≡◌, ◌++◌, drop, length}
use Rattle.std.specs.List.{flat_map, zip}
use Rattle.task_msbuild.specs.Gathered.{call_items}
use Rattle.task_msbuild.proofs.gathering.items.Given as goal

abbrev pub invariant-loop-key : goal.invariant-loop-key
invariant-loop-key l =
    l.items
    ++ flat_map call_items
    (zip (drop (length l.yielded) l.calls) (drop (length l.yielded) l.results))
    ≡ flat_map call_items (zip l.calls l.results)
