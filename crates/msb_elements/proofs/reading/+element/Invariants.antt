use Rattle.std.proofs.Common.{◌≡◌, ◌≤◌, ◌+◌, ◌*◌, length, Some, false}
use Rattle.serde_json.specs.View.{view as value_of, items_view}
use Rattle.msb_elements.specs.Trees.{tree_of, trees_of}
use Rattle.msb_elements.specs.Projects.{children_or_fault}
use Rattle.msb_elements.proofs.Heights.{height, heights}
use Rattle.msb_elements.proofs.Formed.{IsSoFar}
use Rattle.msb_elements.proofs.reading.+element.Given as goal

abbrev pub decreases-element : goal.decreases-element
decreases-element l = 3 * height (tree_of (value_of l.value))

abbrev pub decreases-below : goal.decreases-below
decreases-below l = 3 * heights (trees_of (items_view l.entries.items)) + 2

abbrev pub decreases-children : goal.decreases-children
decreases-children l = 3 * heights (trees_of (items_view l.entries.items)) + 1

abbrev pub invariant-children-loop-number : goal.invariant-children-loop-number
invariant-children-loop-number l = record {
  so_far : IsSoFar (Some l.kind) l.place l.number-iterator.iter.rest.items l.number-iterator.count
      l.after_on_error l.all.items
      (children_or_fault (Some l.kind) false l.place 0 (trees_of (items_view l.fn.entries.items)));
  counted : l.number-iterator.count + length l.number-iterator.iter.rest.items ≡ l.count;
  left : length l.number-iterator.iter.rest.items ≡ l.number-iterator.iter.rest.len;
  less_deep : heights (trees_of (items_view l.number-iterator.iter.rest.items))
      ≤ heights (trees_of (items_view l.fn.entries.items));
}
