-- A fault as a cause, by which it is printed.
use Rattle.msb_values.specs.declared.cause.Cause.{Cause}
use Rattle.msb_values.specs.declared.cause.Cause.TheVariants as cause
use Rattle.msb_expand.specs.Causes as expand
use Rattle.msb_expand.specs.declared.faults.ExpandFault.{ExpandFault}
use Rattle.msb_expand.specs.declared.faults.ExpandFault.TheVariants.{Memory as NoMemory}
use Rattle.msb_condition.specs.declared.faults.CondFault.{CondFault}
use Rattle.msb_condition.specs.declared.faults.CondFault.TheVariants.{
  Syntax,
  NotBoolean,
  NotNumbers,
  Expand,
  Memory,
}

abbrev pub cause_of : CondFault → Cause
cause_of (Syntax place) = cause.Syntax place
cause_of (NotBoolean text) = cause.NotBoolean text
cause_of (NotNumbers left right) = cause.NotNumbers left right
cause_of (Expand fault) = expand.cause_of fault
cause_of Memory = cause.Memory

-- want of memory of an expression is that of the condition
abbrev pub fault_of : ExpandFault → CondFault
fault_of NoMemory = Memory
fault_of fault = Expand fault
