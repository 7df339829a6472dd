-- How an answer is the one that a definition gives, but for want of memory.
use Rattle.std.specs.Prelude.{◌≡◌, Result, Ok, Err}
use Rattle.msb_values.specs.Caused.{UnlessMemory}
use Rattle.msb_values.specs.declared.cause.Cause.{Cause}
use Rattle.msb_values.specs.declared.scope.Scope.{Scope}
use Rattle.build_world.specs.declared.fault.EvalFault.{EvalFault}

-- the scope is then this, or this is the fault and nothing is said of the scope
abbrev pub Changes : {X : Type 0} → Result X EvalFault → Scope → Result Scope EvalFault → Type 0
Changes (Ok x) now answer = answer ≡ Ok now
Changes (Err fault) now answer = UnlessMemory fault.cause (answer ≡ Err fault)

abbrev pub GivesCauseAs : {T U : Type 0} → (T → U) → Result T Cause → Result U Cause → Type 0
GivesCauseAs seen (Ok value) answer = answer ≡ Ok (seen value)
GivesCauseAs seen (Err cause) answer = UnlessMemory cause (answer ≡ Err cause)
