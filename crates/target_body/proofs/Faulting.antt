-- A fault in a bucket of a target, which stops the run.
use Rattle.std.proofs.Common.{◌≡◌, ◌∙◌, ◌++◌, ℕ, List, [], ◌∷◌, Result, Err, ap, refl, sym}
use Rattle.msb_values.specs.Caused.{UnlessMemory}
use Rattle.msb_values.specs.declared.cause.Cause.{Cause}
use Rattle.msb_values.specs.declared.cause.Cause.TheVariants.{Memory}
use Rattle.msb_values.specs.declared.note.Note.TheVariants.{Fail}
use Rattle.build_world.specs.Faults.{fault_text}
use Rattle.build_world.specs.declared.fault.EvalFault.{EvalFault}
use Rattle.result_cache.specs.Journal.{Journal}
use Rattle.result_cache.specs.declared.record.Decision.TheVariants.{Failed}
use Rattle.task_trait.specs.declared.tools.ToolInput.{ToolInput}
use Rattle.target_body.specs.Played.{Reached, over}
use Rattle.target_body.specs.Pieces.{as_failed}
use Rattle.target_body.specs.Seen.{seen_done, seen_state}
use Rattle.target_body.specs.States.{State, Stopped, faulted, progress_of, stop_at}
use Rattle.target_body.specs.declared.state.State.{State as Held}

-- a fault that is noted is not want of memory
pub told : {P : Type 0} (cause : Cause) → (cause ≡ Memory → ⊥) → UnlessMemory cause P → P
told Memory noted p = absurd (noted refl)
told cause noted p = p

-- a fault is noted, and then the word for the bucket
pub faulted_so : (fault : EvalFault) (journal : Journal) (tools : List (List ℕ × ToolInput))
    (held noted after : Held)
    → noted ≡ record held { notes = held.notes ++ Fail (fault_text fault) ∷ [] }
    → after ≡ record noted { decisions = noted.decisions ++ Failed ∷ [] }
    → ◌≡◌ {A = Reached (Result State Stopped)}
    (over
    (Err (as_failed (stop_at fault (seen_state held journal)))) (seen_done held journal tools))
    (over (Err (faulted (progress_of (seen_state after journal))))
    (seen_done after journal tools))
faulted_so fault journal tools held noted after noted_so after_so =
    sym (ap (λ (h : Held). over (Err (faulted (progress_of (seen_state h journal))))
    (seen_done h journal tools))
    (after_so ∙ ap (λ (h : Held). record h { decisions = h.decisions ++ Failed ∷ [] }) noted_so))
