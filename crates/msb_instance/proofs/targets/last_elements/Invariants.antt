use Rattle.std.proofs.Common.{◌≡◌, map}
use Rattle.std.specs.Vec.Iter.{into_iter_items}
use Rattle.build_world.specs.Elements.{seen_placed}
use Rattle.msb_instance.specs.Targets.{targets_from, targets_of}
use Rattle.msb_instance.specs.Made.{target_in}
use Rattle.msb_instance.proofs.targets.last_elements.Given as goal

abbrev pub invariant-loop-placed : goal.invariant-loop-placed
invariant-loop-placed l = targets_from (map target_in l.last.entries)
    (map seen_placed (into_iter_items l.placed-iterator))
    ≡ targets_of (map seen_placed l.fn.elements.items)
