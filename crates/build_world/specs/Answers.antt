-- How an answer is the one that a definition gives, but for want of memory.
use Rattle.std.specs.Prelude.{◌≡◌, Result, Ok, Err}
use Rattle.msb_values.specs.Caused.{UnlessMemory}
use Rattle.build_world.specs.declared.fault.EvalFault.{EvalFault}

abbrev pub GivesFault : {T U : Type 0} → (T → U) → Result T EvalFault → Result U EvalFault → Type 0
GivesFault seen (Ok value) answer = answer ≡ Ok (seen value)
GivesFault seen (Err fault) answer = UnlessMemory fault.cause (answer ≡ Err fault)
