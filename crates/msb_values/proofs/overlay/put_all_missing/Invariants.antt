use Rattle.std.proofs.Common.{◌≡◌}
use Rattle.msb_values.specs.Overlays.{overlaid}
use Rattle.msb_values.proofs.overlay.put_all_missing.Given as goal

abbrev pub invariant-loop-name : goal.invariant-loop-name
invariant-loop-name l = overlaid l.name-iterator l.meta ≡ overlaid l.defaults l.initial.meta
