-- Causes that are told at an element as faults, where something stands ahead of what was read.
use Rattle.std.proofs.Common.{◌≡◌, Result, Ok, Err, refl, sym, ap, ◌∙◌, subst}
use Rattle.msb_laws.specs.Results.{map_ok}
use Rattle.msb_values.specs.Caused.{UnlessMemory}
use Rattle.msb_values.specs.declared.cause.Cause.{Cause}
use Rattle.msb_values.specs.declared.cause.Cause.TheVariants.{Memory}
use Rattle.msb_values.proofs.Causing.{unless}
use Rattle.build_world.specs.declared.fault.EvalFault.{EvalFault}
use Rattle.build_world.specs.Elements.{At, fault_of, or_fault}

once : (P : Type 0) (cause : Cause) → UnlessMemory cause (UnlessMemory cause P)
    → UnlessMemory cause P
once P Memory given = tt
once P cause given = given

told_after : {X Y : Type 0} (e : At) (f : X → Y) (read : Result X Cause)
    → map_ok f (or_fault e read) ≡ or_fault e (map_ok f read)
told_after e f (Ok x) = refl
told_after e f (Err cause) = refl

-- a cause of what was read is told as a fault of the whole
pub told_at : {X Y : Type 0} (e : At) (f : X → Y) (read : Result X Cause) (cause : Cause)
    (fault : EvalFault) → UnlessMemory cause (map_ok f read ≡ Err cause)
    → UnlessMemory fault.cause (fault ≡ fault_of e cause)
    → UnlessMemory fault.cause (map_ok f (or_fault e read) ≡ Err fault)
told_at e f read cause fault is told =
    let Told : EvalFault
    → Type 0 = λ fault. UnlessMemory fault.cause (map_ok f (or_fault e read) ≡ Err fault) in
    let here : Told (fault_of e cause) = unless cause
    (λ is. told_after e f read ∙ ap (λ read. or_fault e read) is) is in
    once _ fault.cause (unless fault.cause (λ same. subst Told (sym same) here) told)
