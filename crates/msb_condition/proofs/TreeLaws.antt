-- The trees of conditions.
use Rattle.std.proofs.Common.{◌≡◌, sym, ap, ◌∙◌}
use Rattle.msb_condition.specs.declared.condition.Cond.TheFolds.{fold-roll-Cond}
use Rattle.msb_condition.specs.declared.condition.Cond.TheOpen as open_cond
use Rattle.msb_condition.specs.declared.condition.Cond.TheVariants.{Truth, rolls-Truth}
use Rattle.msb_condition.specs.declared.condition.Operand.{Operand}
use Rattle.msb_condition.specs.Trees.{Tree, truth}
use Rattle.msb_condition.specs.View.{tree_of, view_step, operand_of}

pub truth_tree : (left : Operand) → tree_of (Truth left) ≡ truth (operand_of left)
truth_tree left = ap tree_of (sym (rolls-Truth left))
    ∙ fold-roll-Cond Tree view_step (open_cond.Truth left)
