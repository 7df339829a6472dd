-- What a fault of a part is for the whole, where it may be want of memory.
use Rattle.std.proofs.Common.{◌≡◌, Result, Ok, Err}
use Rattle.msb_values.specs.Caused.{UnlessMemory}
use Rattle.msb_values.specs.declared.cause.Cause.{Cause}
use Rattle.msb_values.specs.declared.cause.Cause.TheVariants.{Memory}

pub unless : {P Q : Type 0} (cause : Cause) → (P → Q) → UnlessMemory cause P → UnlessMemory cause Q
unless Memory follows given = tt
unless cause follows given = follows given

-- a fault of a step is the fault of the whole
pub passed_on : {X Y E : Type 0} (cause_of : E → Cause) (fault : E) (step : Result X E)
    (whole : Result Y E)
    → ((f : E) → step ≡ Err f → whole ≡ Err f) → UnlessMemory (cause_of fault) (step ≡ Err fault)
    → UnlessMemory (cause_of fault) (whole ≡ Err fault)
passed_on cause_of fault step whole same is = unless (cause_of fault) (same fault) is
