use Rattle.std.proofs.Common.{◌≡◌, drop}
use Rattle.result_cache.specs.Kept.{all_of}
use Rattle.result_cache.specs.Table.{found}
use Rattle.result_cache.proofs.finished.find_in.Given as goal

abbrev pub invariant-loop-layer : goal.invariant-loop-layer
invariant-loop-layer l =
    found (all_of (drop l.layer-index l.layers)) l.run ≡ found (all_of l.layers) l.run
