-- The tree that a condition of the code shows.
use Rattle.std.specs.List.{fold}
use Rattle.msb_condition.specs.Trees.{
  Tree,
  empty,
  either,
  both,
  negated,
  compared,
  truth,
  text,
  call,
}
use Rattle.msb_condition.specs.Trees as trees
use Rattle.msb_condition.specs.declared.condition.Operand.{Operand}
use Rattle.msb_condition.specs.declared.condition.Operand.TheVariants.{Text, Call'}
use Rattle.msb_condition.specs.declared.condition.Cond.{Cond}
use Rattle.msb_condition.specs.declared.condition.Cond.TheFolds.{fold-Cond}
use Rattle.msb_condition.specs.declared.condition.Cond.TheOpen.{Cond-F}
use Rattle.msb_condition.specs.declared.condition.Cond.TheOpen as open_cond

abbrev pub operand_of : Operand → trees.Operand
operand_of (Text expr) = text expr
operand_of (Call' function p operand) = call function (operand_of operand)

-- one level, with each condition in it already seen as its tree
abbrev pub view_step : Cond-F Tree → Tree
view_step open_cond.Empty = empty
view_step (open_cond.Or first others) = fold either first.value others.items
view_step (open_cond.And first others) = fold both first.value others.items
view_step (open_cond.Not inner) = negated inner.value
view_step (open_cond.Compare comparison left right) = compared comparison (operand_of left)
    (operand_of right)
view_step (open_cond.Truth operand) = truth (operand_of operand)

abbrev pub tree_of : Cond → Tree
tree_of = fold-Cond Tree view_step
