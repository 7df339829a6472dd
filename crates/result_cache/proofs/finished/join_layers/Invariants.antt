use Rattle.std.proofs.Common.{◌≡◌, take}
use Rattle.result_cache.specs.Kept.{all_of}
use Rattle.result_cache.proofs.finished.join_layers.Given as goal

abbrev pub invariant-loop-layer : goal.invariant-loop-layer
invariant-loop-layer l = l.all ≡ all_of (take l.layer-index l.layers)
