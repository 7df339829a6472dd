-- The value of a property, as it is read again for item references.
use Rattle.std.specs.Prelude.{List, Result, Ok, Err}
use Rattle.msb_expression.specs.declared.faults.ExprFault.{ExprFault}
use Rattle.msb_expression.specs.declared.expression.Part.{Part}
use Rattle.msb_expand.specs.declared.faults.ExpandFault.{ExpandFault}
use Rattle.msb_expand.specs.declared.faults.ExpandFault.TheVariants.{Expr}

abbrev pub read_again : Result (List Part) ExprFault → Result (List Part) ExpandFault
read_again (Ok parts) = Ok parts
read_again (Err fault) = Err (Expr fault)
