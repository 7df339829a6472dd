use Rattle.std.proofs.Common.{◌≡◌, ◌++◌}
use Rattle.std.specs.Vec.Iter.{into_iter_items}
use Rattle.msb_glob.specs.FoldedNames.{seen_names}
use Rattle.msb_items.specs.FoldedNames.{unnamed_by}
use Rattle.msb_items.proofs.item_names.keep_unnamed.Given as goal

abbrev pub invariant-loop-item : goal.invariant-loop-item
invariant-loop-item l = l.kept.items ++ unnamed_by l.project (seen_names l.names)
    (into_iter_items l.item-iterator) ≡ unnamed_by l.project (seen_names l.names) l.fn.items.items
