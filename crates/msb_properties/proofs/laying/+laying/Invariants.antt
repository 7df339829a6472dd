use Rattle.std.proofs.Common.{◌≡◌, ◌+◌, ◌*◌, ◌≤◌, length, ◌-◌}
use Rattle.std.specs.Vec.Iter.{into_iter_items, into_iter_len}
use Rattle.msb_elements.specs.View.{view, views}
use Rattle.msb_properties.specs.Laid.{lay_all, lay_chosen, lay_within}
use Rattle.msb_properties.specs.Seen.{seen_setting, seen_laid, IsKept}
use Rattle.msb_properties.proofs.Heights.{height, heights, above_all}
use Rattle.msb_properties.proofs.laying.+laying.Given as goal

abbrev pub decreases-lay_file : goal.decreases-lay_file
decreases-lay_file l = 8 * ((64 - length l.chain.now) * above_all l.setting.now.tree.now.files)

abbrev pub decreases-lay_project : goal.decreases-lay_project
decreases-lay_project l = 8 *
    ((64 - length l.context.now.chain.now) * above_all l.context.now.setting.tree.now.files
    + height (view l.root)) + 5

abbrev pub decreases-lay_all : goal.decreases-lay_all
decreases-lay_all l = 8 *
    ((64 - length l.context.now.chain.now) * above_all l.context.now.setting.tree.now.files
    + heights (views l.children.items)) + 4

abbrev pub decreases-lay_one : goal.decreases-lay_one
decreases-lay_one l = 8 *
    ((64 - length l.context.now.chain.now) * above_all l.context.now.setting.tree.now.files
    + height (view l.child)) + 3

abbrev pub decreases-lay_group : goal.decreases-lay_group
decreases-lay_group l = 8 *
    ((64 - length l.context.now.chain.now) * above_all l.context.now.setting.tree.now.files
    + height (view l.group)) + 2

abbrev pub decreases-lay_chosen : goal.decreases-lay_chosen
decreases-lay_chosen l = 8 *
    ((64 - length l.context.now.chain.now) * above_all l.context.now.setting.tree.now.files
    + heights (views l.choices.items)) + 5

abbrev pub decreases-lay_import : goal.decreases-lay_import
decreases-lay_import l = 8 *
    ((64 - length l.context.now.chain.now) * above_all l.context.now.setting.tree.now.files) + 2

abbrev pub decreases-lay_found : goal.decreases-lay_found
decreases-lay_found l = 8 *
    ((64 - length l.context.now.chain.now) * above_all l.context.now.setting.tree.now.files) + 1

abbrev pub invariant-lay_all-loop-child : goal.invariant-lay_all-loop-child
invariant-lay_all-loop-child l = record {
  laid : lay_all (lay_within (64 - length l.context.chain.now) (seen_setting l.context.setting))
      (seen_setting l.context.setting) l.context.chain.now l.context.file.now (seen_laid l.layout)
      (views (into_iter_items l.child-iterator))
      ≡ lay_all (lay_within (64 - length l.context.chain.now) (seen_setting l.context.setting))
      (seen_setting l.context.setting) l.context.chain.now l.context.file.now
      (seen_laid l.initial.layout) (views l.fn.children.items);
  kept : IsKept (seen_setting l.context.setting) l.layout;
  counted : into_iter_len l.child-iterator ≡ length (into_iter_items l.child-iterator);
  less_deep : heights (views (into_iter_items l.child-iterator))
      ≤ heights (views l.fn.children.items);
}

abbrev pub invariant-lay_chosen-loop-choice : goal.invariant-lay_chosen-loop-choice
invariant-lay_chosen-loop-choice l = record {
  laid : lay_chosen (lay_within (64 - length l.context.chain.now) (seen_setting l.context.setting))
      (seen_setting l.context.setting) l.context.chain.now l.context.file.now (seen_laid l.layout)
      (views (into_iter_items l.choice-iterator))
      ≡ lay_chosen (lay_within (64 - length l.context.chain.now) (seen_setting l.context.setting))
      (seen_setting l.context.setting) l.context.chain.now l.context.file.now
      (seen_laid l.initial.layout) (views l.fn.choices.items);
  kept : IsKept (seen_setting l.context.setting) l.layout;
  counted : into_iter_len l.choice-iterator ≡ length (into_iter_items l.choice-iterator);
  less_deep : heights (views (into_iter_items l.choice-iterator))
      ≤ heights (views l.fn.choices.items);
}
