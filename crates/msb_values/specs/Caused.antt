-- How an answer is the one that a definition gives, but for want of memory.
use Rattle.std.specs.Prelude.{◌≡◌, Result, Ok, Err}
use Rattle.msb_values.specs.declared.cause.Cause.{Cause}
use Rattle.msb_values.specs.declared.cause.Cause.TheVariants.{Memory}

abbrev pub UnlessMemory : Cause → Type 0 → Type 0
UnlessMemory Memory P = Unit {0}
UnlessMemory cause P = P

-- an answer as it is seen, and a fault that has a cause
abbrev pub GivesUnless : {T U E : Type 0} → (E → Cause) → (T → U) → Result T E → Result U E → Type 0
GivesUnless cause_of seen (Ok value) answer = answer ≡ Ok (seen value)
GivesUnless cause_of seen (Err fault) answer = UnlessMemory (cause_of fault) (answer ≡ Err fault)

abbrev pub GivesCause : {T : Type 0} → Result T Cause → Result T Cause → Type 0
GivesCause (Ok value) answer = answer ≡ Ok value
GivesCause (Err cause) answer = UnlessMemory cause (answer ≡ Err cause)
