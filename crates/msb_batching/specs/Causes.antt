-- A fault of an item's metadata as a fault of batching, and a fault of batching as a cause, by
-- which it is printed.
use Rattle.msb_values.specs.declared.cause.Cause.{Cause}
use Rattle.msb_values.specs.declared.cause.Cause.TheVariants as cause
use Rattle.msb_expand.specs.Causes as causes
use Rattle.msb_expand.specs.declared.faults.ExpandFault.{ExpandFault}
use Rattle.msb_expand.specs.declared.faults.ExpandFault.TheVariants as expand
use Rattle.msb_batching.specs.declared.faults.BatchFault.{BatchFault}
use Rattle.msb_batching.specs.declared.faults.BatchFault.TheVariants.{
  NoList,
  NoValue,
  Expand,
  Memory,
}

abbrev pub batch_fault : ExpandFault → BatchFault
batch_fault expand.Memory = Memory
batch_fault fault = Expand fault

abbrev pub cause_of : BatchFault → Cause
cause_of (NoList name) = cause.NoList name
cause_of (NoValue kind ident name) = cause.NoValue kind ident name
cause_of (Expand fault) = causes.cause_of fault
cause_of Memory = cause.Memory
