use Rattle.std.proofs.Common.{◌≡◌, map, take}
use Rattle.std.specs.Prelude.{option_copied}
use Rattle.msb_expand.specs.Scenes.{pairs_or_none, with_defaults}
use Rattle.msb_expand.specs.Seen.{seen_item}
use Rattle.msb_expand.proofs.references.see_all.Given as goal

abbrev pub invariant-loop-item : goal.invariant-loop-item
invariant-loop-item l = map seen_item l.seen.items
    ≡ map (with_defaults (pairs_or_none (option_copied l.defaults))) (take l.item-index l.items)
