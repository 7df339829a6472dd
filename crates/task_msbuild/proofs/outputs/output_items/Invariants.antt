use Rattle.std.proofs.Common.{◌≡◌, ◌++◌, map}
use Rattle.std.specs.Vec.Iter.{into_iter_items}
use Rattle.msb_values.specs.Changes.{with_metadata}
use Rattle.task_msbuild.specs.Gathered.{output_items, source_of}
use Rattle.task_msbuild.proofs.outputs.output_items.Given as goal

abbrev pub invariant-loop-item : goal.invariant-loop-item
invariant-loop-item l =
    l.items ++ map (with_metadata (source_of l.key l.returned.target))
    (into_iter_items l.item-iterator) ≡ output_items l.key l.returned
