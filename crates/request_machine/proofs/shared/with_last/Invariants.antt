use Rattle.std.proofs.Common.{◌≡◌, ◌≤◌, ◌++◌, length, drop}
use Rattle.request_machine.specs.Layers.{joined}
use Rattle.request_machine.proofs.shared.with_last.Given as goal

abbrev pub invariant-loop-kept : goal.invariant-loop-kept
invariant-loop-kept g l = (l.last ≡ joined (drop l.kept l.layers) ++ l.fn.last)
    × (l.kept ≤ length l.layers)

abbrev pub decreases-loop-kept : goal.decreases-loop-kept
decreases-loop-kept g l = l.kept
