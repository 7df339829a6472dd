use Rattle.std.proofs.Common.{◌≡◌, map, drop}
use Rattle.msb_expand.specs.Functions.{any_passes}
use Rattle.msb_values.specs.Keys.{key_of}
use Rattle.msb_expand.specs.Seen.{seen_item}
use Rattle.msb_expand.specs.Wanted.{passes}
use Rattle.msb_expand.proofs.filters.any_passes.Given as goal

-- what is left to ask
abbrev pub invariant-loop-item : goal.invariant-loop-item
invariant-loop-item l =
    (l.key ≡ key_of l.of)
    × (any_passes l.project l.of (passes l.wanted) (map seen_item (drop l.item-index l.items))
    ≡ any_passes l.project l.of (passes l.wanted) (map seen_item l.items))
