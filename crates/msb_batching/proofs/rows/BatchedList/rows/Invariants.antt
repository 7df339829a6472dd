use Rattle.std.proofs.Common.{◌≡◌, ◌++◌, map, drop}
use Rattle.msb_laws.specs.Results.{map_ok}
use Rattle.msb_expand.specs.Scenes.{scene_of}
use Rattle.msb_batching.specs.Rows.{row_of}
use Rattle.msb_batching.specs.Values.{rows_of}
use Rattle.msb_batching.proofs.rows.BatchedList.rows.Given as goal

abbrev pub invariant-loop-item : goal.invariant-loop-item
invariant-loop-item l =
    rows_of (scene_of l.self.lens.now) l.self.is_named l.self.kind.now l.self.references.now l.items
    ≡ map_ok (λ more. map row_of l.rows.items ++ more)
    (rows_of (scene_of l.self.lens.now) l.self.is_named l.self.kind.now l.self.references.now
    (drop l.item-index l.items))
