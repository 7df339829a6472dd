use Rattle.std.proofs.Common.{◌≡◌, ◌++◌, map}
use Rattle.std.specs.Vec.Iter.{into_iter_items}
use Rattle.msb_expand.specs.Functions.{filtered}
use Rattle.msb_values.specs.Keys.{key_of}
use Rattle.msb_laws.specs.Results.{map_ok}
use Rattle.msb_expand.specs.Seen.{seen_item}
use Rattle.msb_expand.specs.Wanted.{passes}
use Rattle.msb_expand.proofs.filters.filter.Given as goal

-- what is kept, and what is left to ask
abbrev pub invariant-loop-item : goal.invariant-loop-item
invariant-loop-item l =
    (l.key ≡ key_of l.of)
    × (map_ok (λ rest. map seen_item l.kept.items ++ rest)
    (filtered l.project l.of (passes l.wanted)
    (map seen_item (into_iter_items l.item-iterator)))
    ≡ filtered l.project l.of (passes l.wanted) (map seen_item l.fn.items.items))
