use Rattle.std.proofs.Common.{◌≡◌, ◌≤◌, ◌-◌, ◌++◌, length, drop}
use Rattle.msb_files.specs.Layers.{all_of}
use Rattle.msb_files.proofs.layers.with_new.Given as goal

abbrev pub invariant-loop-taken : goal.invariant-loop-taken
invariant-loop-taken l = (l.newest ++ all_of (drop l.taken l.layers)
    ≡ l.initial.newest ++ all_of l.layers) × (l.taken ≤ length l.layers)

abbrev pub decreases-loop-taken : goal.decreases-loop-taken
decreases-loop-taken l = length l.layers - l.taken
