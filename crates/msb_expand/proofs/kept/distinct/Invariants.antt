use Rattle.std.proofs.Common.{◌≡◌, ℕ, List, [], ◌++◌, map}
use Rattle.std.specs.Vec.Iter.{into_iter_items}
use Rattle.msb_expand.specs.Functions.{distinct_from}
use Rattle.msb_expand.specs.Seen.{seen_item}
use Rattle.msb_expand.proofs.Distinct.{HoldsFolded}
use Rattle.msb_expand.proofs.kept.distinct.Given as goal

-- the set holds the identities that were seen; what is kept, and what is left to ask
abbrev pub invariant-loop-item : goal.invariant-loop-item
invariant-loop-item l = (seen : List (List ℕ)) × HoldsFolded l.idents seen
    × (map seen_item l.kept.items ++ distinct_from seen
    (map seen_item (into_iter_items l.item-iterator))
    ≡ distinct_from [] (map seen_item l.fn.items.items))
