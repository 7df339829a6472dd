-- How an answer is the one that a definition gives, but for want of memory.
use Rattle.std.specs.Prelude.{◌≡◌, Result, Ok, Err}
use Rattle.msb_functions.specs.declared.faults.FuncFault.{FuncFault}
use Rattle.msb_functions.specs.declared.faults.FuncFault.TheVariants.{
  UnknownFunction,
  BadArgument,
  Overflow,
  Memory,
}

abbrev pub Gives : {T : Type 0} → Result T FuncFault → Result T FuncFault → Type 0
Gives (Ok value) answer = answer ≡ Ok value
Gives (Err UnknownFunction) answer = answer ≡ Err UnknownFunction
Gives (Err BadArgument) answer = answer ≡ Err BadArgument
Gives (Err Overflow) answer = answer ≡ Err Overflow
Gives (Err Memory) answer = Unit {0}
