use Rattle.std.proofs.Common.{◌≡◌, ◌-◌, false, drop, length}
use Rattle.result_cache.specs.Journal.{has}
use Rattle.msb_files.specs.Layers.{all_of}
use Rattle.msb_files.proofs.layers.has_mark.Given as goal

abbrev pub invariant-loop-at : goal.invariant-loop-at
invariant-loop-at l = has l.mark (all_of (drop (length l.layers - l.at) l.layers)) ≡ false
