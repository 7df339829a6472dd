-- How an answer is the one that a definition gives, but for want of memory.
use Rattle.std.specs.Prelude.{◌≡◌, Option, Some, None, Result, Ok, Err}
use Rattle.task_trait.specs.declared.failures.Failure.{Failure}
use Rattle.task_trait.specs.declared.failures.Failure.TheVariants.{Memory}

abbrev pub UnlessMemory : Failure → Type 0 → Type 0
UnlessMemory Memory P = Unit {0}
UnlessMemory failure P = P

-- a value as it is seen, or this failure
abbrev pub GivesAs : {T U : Type 0} → (T → U) → Result T Failure → Result U Failure → Type 0
GivesAs seen (Ok value) answer = answer ≡ Ok (seen value)
GivesAs seen (Err failure) answer = UnlessMemory failure (answer ≡ Err failure)

abbrev pub Gives : {T : Type 0} → Result T Failure → Result T Failure → Type 0
Gives (Ok value) answer = answer ≡ Ok value
Gives (Err failure) answer = UnlessMemory failure (answer ≡ Err failure)

-- a check passes, or this is its failure
abbrev pub Checks : {T : Type 0} → Result T Failure → Option Failure → Type 0
Checks (Ok value) failure = failure ≡ None
Checks (Err failure) answer = UnlessMemory failure (answer ≡ Some failure)
