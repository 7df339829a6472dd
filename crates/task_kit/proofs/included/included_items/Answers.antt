use Rattle.std.proofs.Common.{sym, ◌∙◌, subst, IsSorted}
use Rattle.std.specs.Cmp.Lexicographic.{slice_cmp}
use Rattle.std.specs.Ordering.{nat_cmp}
use Rattle.task_kit.proofs.Rising.{paths_sorted}
use Rattle.task_kit.proofs.included.included_items.Goals as goal

pub of_texts-sorted-requires : goal.of_texts-sorted-requires
of_texts-sorted-requires c = subst (IsSorted (slice_cmp nat_cmp))
    (sym (c.as_slice.ensures ∙ c.in_ok-paths.ensures)) (paths_sorted c.args.view.now)
