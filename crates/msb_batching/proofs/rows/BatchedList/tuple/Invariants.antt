use Rattle.std.proofs.Common.{◌≡◌, ◌++◌, drop}
use Rattle.msb_laws.specs.Results.{map_ok}
use Rattle.msb_expand.specs.Scenes.{scene_of}
use Rattle.msb_batching.specs.Values.{tuple_of}
use Rattle.msb_batching.proofs.rows.BatchedList.tuple.Given as goal

abbrev pub invariant-loop-reference : goal.invariant-loop-reference
invariant-loop-reference l =
    tuple_of (scene_of l.self.lens.now) l.self.is_named l.self.kind.now l.self.references.now l.item
    ≡ map_ok (λ more. l.tuple ++ more)
    (tuple_of (scene_of l.self.lens.now) l.self.is_named l.self.kind.now
    (drop l.reference-index l.reference-items) l.item)
