use Rattle.std.proofs.Common.{◌≡◌, ◌++◌, map, drop}
use Rattle.msb_laws.specs.Results.{map_ok, all_ok}
use Rattle.msb_expand.specs.Scenes.{scene_of}
use Rattle.msb_batching.specs.Growing.{spoken_of}
use Rattle.msb_batching.specs.Rows.{pairs_of}
use Rattle.msb_batching.specs.Values.{batch_of, batches_of}
use Rattle.msb_batching.proofs.rows.batches.Given as goal

abbrev pub invariant-loop-kind : goal.invariant-loop-kind
invariant-loop-kind l =
    batches_of (scene_of l.lens) (spoken_of l.mentions)
    ≡ map_ok (λ more. map pairs_of l.batches.items ++ more)
    (all_ok (λ kind. batch_of (scene_of l.lens) (spoken_of l.mentions) kind.now)
    (drop l.kind-index l.kind-items))
