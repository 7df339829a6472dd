use Rattle.std.proofs.Common.{◌≡◌, drop}
use Rattle.std.specs.List.{list_any}
use Rattle.msb_values.specs.Acts.{act_path}
use Rattle.msb_files.specs.Below.{has_file_below}
use Rattle.msb_files.specs.Layers.{all_of}
use Rattle.msb_files.specs.Views.{acts_of}
use Rattle.msb_files.proofs.layers.is_any_below.Given as goal

abbrev pub invariant-loop-layer : goal.invariant-loop-layer
invariant-loop-layer l =
    list_any (λ act. has_file_below l.view l.folder (act_path act))
    (acts_of (all_of (drop l.layer-index l.layers)))
    ≡ list_any (λ act. has_file_below l.view l.folder (act_path act)) (acts_of (all_of l.layers))
