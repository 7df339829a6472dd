use Rattle.std.proofs.Common.{◌≡◌, ◌++◌, List}
use Rattle.std.specs.Vec.Iter.{into_iter_items}
use Rattle.msb_values.specs.declared.item.Item.{Item}
use Rattle.msb_items.specs.RepeatKeys.{HasKeys}
use Rattle.msb_items.specs.Repeats.{without_repeats}
use Rattle.msb_items.proofs.repeats.new_items.Given as goal

abbrev pub invariant-loop-item : goal.invariant-loop-item
invariant-loop-item l = record {
  keys : HasKeys l.defaults l.kept.items l.own;
  kept : (there : List Item) → HasKeys l.defaults there l.known
      → l.kept.items ++ without_repeats l.defaults (there ++ l.kept.items)
      (into_iter_items l.item-iterator) ≡ without_repeats l.defaults there l.fn.items.items;
}
