use Rattle.std.proofs.Common.{◌≡◌, drop}
use Rattle.std.specs.List.{slice_get}
use Rattle.msb_files.specs.Layers.{all_of}
use Rattle.msb_files.proofs.layers.entry_at.Given as goal

abbrev pub invariant-loop-layer : goal.invariant-loop-layer
invariant-loop-layer l = slice_get (all_of (drop l.layer-index l.layers)) l.left
    ≡ slice_get (all_of l.layers) l.at
