-- A condition as a tree. (MSBuild conditions.)
use Rattle.msb_expression.specs.declared.expression.Expr.{Expr}
use Rattle.msb_condition.specs.declared.condition.Comparison.{Comparison}
use Rattle.msb_condition.specs.declared.condition.Function.{Function}

-- a text, or a function of one
pub data Operand : Type 0 where
  text : Expr → Operand
  call : Function → Operand → Operand

pub data Tree : Type 0 where
  empty : Tree
  either : Tree → Tree → Tree
  both : Tree → Tree → Tree
  negated : Tree → Tree
  compared : Comparison → Operand → Operand → Tree
  truth : Operand → Tree
