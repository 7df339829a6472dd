use Rattle.std.proofs.Common.{◌≡◌, ◌++◌, []}
use Rattle.std.specs.Vec.Iter.{into_iter_items}
use Rattle.msb_items.specs.RepeatKeys.{HasKeys}
use Rattle.msb_items.proofs.repeats.append_all.Given as goal

abbrev pub invariant-loop-item : goal.invariant-loop-item
invariant-loop-item l = record {
  keys : HasKeys [] l.items l.keys;
  items : l.items ++ into_iter_items l.item-iterator ≡ l.fn.items ++ l.fn.more.items;
}
