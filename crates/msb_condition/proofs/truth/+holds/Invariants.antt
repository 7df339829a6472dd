use Rattle.std.proofs.Common.{◌≡◌, map, drop}
use Rattle.msb_condition.specs.Answers.{view_of}
use Rattle.msb_condition.specs.Truth.{any_truth, every_truth}
use Rattle.msb_condition.specs.View.{tree_of}
use Rattle.msb_condition.proofs.truth.+holds.Given as goal

abbrev pub invariant-any_holds-loop-cond : goal.invariant-any_holds-loop-cond
invariant-any_holds-loop-cond g l =
    any_truth (view_of l.lens (g.F.Present.files l.files)) (map tree_of l.conds)
    ≡ any_truth (view_of l.lens (g.F.Present.files l.files))
    (map tree_of (drop l.cond-index l.conds))

abbrev pub invariant-all_hold-loop-cond : goal.invariant-all_hold-loop-cond
invariant-all_hold-loop-cond g l =
    every_truth (view_of l.lens (g.F.Present.files l.files)) (map tree_of l.conds)
    ≡ every_truth (view_of l.lens (g.F.Present.files l.files))
    (map tree_of (drop l.cond-index l.conds))
