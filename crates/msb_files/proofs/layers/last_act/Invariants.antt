use Rattle.std.proofs.Common.{◌≡◌, drop}
use Rattle.msb_files.specs.Indices.{last_act}
use Rattle.msb_files.specs.Layers.{all_of}
use Rattle.msb_files.proofs.layers.last_act.Given as goal

abbrev pub invariant-loop-layer : goal.invariant-loop-layer
invariant-loop-layer l = last_act (all_of (drop l.layer-index l.layers)) l.path
    ≡ last_act (all_of l.layers) l.path
