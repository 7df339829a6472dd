use Rattle.std.proofs.Common.{◌≡◌, ◌++◌, map, filter, drop}
use Rattle.msb_glob.specs.FoldedNames.{seen_names}
use Rattle.msb_items.specs.FoldedNames.{is_named_by}
use Rattle.msb_items.proofs.target_items.find_named.Given as goal

abbrev pub invariant-loop-item : goal.invariant-loop-item
invariant-loop-item l =
    map (λ item. item.now) l.named.items ++ filter (is_named_by l.project (seen_names l.names))
    (drop l.item-index l.items)
    ≡ filter (is_named_by l.project (seen_names l.names)) l.items
