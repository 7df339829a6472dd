use Rattle.std.proofs.Common.{◌≡◌, ◌++◌, map}
use Rattle.std.specs.Vec.Iter.{into_iter_items}
use Rattle.msb_expand.specs.Scenes.{scene_of}
use Rattle.msb_expand.specs.Functions.{transformed}
use Rattle.msb_laws.specs.Results.{map_ok, all_ok}
use Rattle.msb_expand.specs.Seen.{seen_item}
use Rattle.msb_expand.proofs.steps.transform.Given as goal

-- what is transformed, and what is left to transform
abbrev pub invariant-loop-item : goal.invariant-loop-item
invariant-loop-item l =
    map_ok (λ rest. map seen_item l.transformed.items ++ rest)
    (all_ok (transformed (scene_of l.lens) l.pieces)
    (map seen_item (into_iter_items l.item-iterator)))
    ≡ all_ok (transformed (scene_of l.lens) l.pieces) (map seen_item l.fn.items.items)
