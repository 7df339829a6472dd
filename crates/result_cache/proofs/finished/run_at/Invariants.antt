use Rattle.std.proofs.Common.{◌≡◌, ◌++◌, drop}
use Rattle.std.specs.List.{slice_get}
use Rattle.result_cache.specs.Kept.{all_of}
use Rattle.result_cache.proofs.finished.run_at.Given as goal

abbrev pub invariant-loop-layer : goal.invariant-loop-layer
invariant-loop-layer l =
    slice_get (all_of (drop l.layer-index l.layers) ++ l.recent) l.left
    ≡ slice_get (all_of l.layers ++ l.recent) l.at
