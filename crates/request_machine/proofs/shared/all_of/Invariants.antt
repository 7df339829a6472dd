use Rattle.std.proofs.Common.{◌≡◌, ◌++◌, drop}
use Rattle.request_machine.specs.Layers.{joined}
use Rattle.request_machine.proofs.shared.all_of.Given as goal

abbrev pub invariant-loop-layer : goal.invariant-loop-layer
invariant-loop-layer g l = l.all ++ joined (drop l.layer-index l.layers) ≡ joined l.layers
