-- A fault as a cause, by which it is printed.
use Rattle.msb_values.specs.declared.cause.Cause.{Cause}
use Rattle.msb_values.specs.declared.cause.Cause.TheVariants as cause
use Rattle.msb_expression.specs.declared.faults.ExprFault.{ExprFault}
use Rattle.msb_expression.specs.declared.faults.ExprFault.TheVariants.{
  Unclosed,
  BadName,
  BadTransform,
  NestedTransform,
  Memory as NoRoom,
}
use Rattle.msb_expand.specs.declared.faults.ExpandFault.{ExpandFault}
use Rattle.msb_expand.specs.declared.faults.ExpandFault.TheVariants.{
  ItemsHere,
  MetadataHere,
  UnknownFunction,
  BadArgument,
  Overflow,
  TooLong,
  MixedList,
  BadPath,
  Expr,
  Memory,
}

abbrev pub expression_cause_of : ExprFault → Cause
expression_cause_of (Unclosed place) = cause.Unclosed place
expression_cause_of (BadName place) = cause.BadName place
expression_cause_of (BadTransform place) = cause.BadTransform place
expression_cause_of (NestedTransform place) = cause.NestedTransform place
expression_cause_of NoRoom = cause.Memory

abbrev pub cause_of : ExpandFault → Cause
cause_of ItemsHere = cause.ItemsHere
cause_of MetadataHere = cause.MetadataHere
cause_of (UnknownFunction name) = cause.UnknownFunction name
cause_of (BadArgument name) = cause.BadArgument name
cause_of (Overflow name) = cause.Overflow name
cause_of TooLong = cause.TooLong
cause_of MixedList = cause.MixedList
cause_of (BadPath ident) = cause.BadPath ident
cause_of (Expr fault) = expression_cause_of fault
cause_of Memory = cause.Memory
