use Rattle.std.proofs.Common.{◌≡◌, ◌||◌}
use Rattle.std.specs.HashSet.{contains}
use Rattle.std.specs.List.{list_any}
use Rattle.std.specs.Vec.Iter.{into_iter_items}
use Rattle.msb_items.proofs.sets.set_of.Given as goal

abbrev pub invariant-loop-key : goal.invariant-loop-key
invariant-loop-key g l = (key : g.row.K.Denot)
    → (contains g.K.PartialEq.eq l.set key || list_any (λ one. g.K.PartialEq.eq one key)
    (into_iter_items l.key-iterator)) ≡ list_any (λ one. g.K.PartialEq.eq one key) l.fn.keys.items
