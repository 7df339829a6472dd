use Rattle.std.proofs.Common.{◌≡◌, drop, map}
use Rattle.msb_elements.specs.View.{view}
use Rattle.build_world.specs.Elements.{at, children_of, seen_element}
use Rattle.msb_items.specs.Seen.{items_in}
use Rattle.msb_items.specs.TargetGroups.{changes_of_each, element_changes}
use Rattle.msb_values.specs.Changes.{all_applied}
use Rattle.msb_items.proofs.Changing.{IsChanging}
use Rattle.msb_items.proofs.target_groups.change_by_each.Given as goal

abbrev pub invariant-loop-child : goal.invariant-loop-child
invariant-loop-child g l =
    let context = items_in g.F.Present.files l.source l.initial.scope in
    let changes = element_changes l.kind in
    record {
      told : IsChanging changes context
          (map (at l.group.file.now) (map view (drop l.child-index l.child-items))) l.scope
          l.changes (changes_of_each changes context (children_of (seen_element l.group)));
      changed : l.scope ≡ all_applied l.changes l.initial.scope;
    }
