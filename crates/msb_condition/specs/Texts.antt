-- The texts of a condition, from the left, also of what evaluation does not reach. (MSBuild
-- conditions; MSBuild batching)
use Rattle.std.specs.Prelude.{List, [], ◌∷◌, ◌++◌}
use Rattle.msb_expression.specs.declared.expression.Expr.{Expr}
use Rattle.msb_condition.specs.Trees.{
  Operand,
  text,
  call,
  Tree,
  empty,
  either,
  both,
  negated,
  compared,
  truth,
}

-- the text of an operand, which functions may stand around
abbrev pub expr_of : Operand → Expr
expr_of (text expr) = expr
expr_of (call function inner) = expr_of inner

abbrev pub texts_of : Tree → List Expr
texts_of empty = []
texts_of (either left right) = texts_of left ++ texts_of right
texts_of (both left right) = texts_of left ++ texts_of right
texts_of (negated tree) = texts_of tree
texts_of (compared comparison left right) = expr_of left ∷ expr_of right ∷ []
texts_of (truth operand) = expr_of operand ∷ []
