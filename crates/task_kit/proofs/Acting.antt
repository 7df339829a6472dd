-- Acts in turn, and what a failure leaves.
use Rattle.std.proofs.Common.{◌≡◌, Result, Ok, Err, sym, ap, ◌∙◌}
use Rattle.task_trait.specs.declared.failures.Failure.{Failure}
use Rattle.task_trait.proofs.Stopping.{unless}
use Rattle.task_kit.specs.Progress.{Acts, Makes, kept_by}
use Rattle.task_kit.specs.declared.progress.TaskProgress.{TaskProgress}

pub goes_on : (before now : TaskProgress) (answer : Result TaskProgress Failure) → answer ≡ Ok now
    → kept_by before answer ≡ Ok now
goes_on before now answer is = ap (kept_by before) is

pub stops : (before now : TaskProgress) (answer : Result TaskProgress Failure) (failure : Failure)
    → (answer ≡ Err failure) × (now ≡ before) → kept_by before answer ≡ Err (now, failure)
stops before now answer failure p = ap (kept_by before) p.0
    ∙ ap (λ progress. Err (progress, failure)) (sym p.1)

-- one act alone
pub makes : {T : Type 0} (work : Result T Failure) (before now : TaskProgress)
    (answer : Result TaskProgress Failure) → Acts work before now answer
    → Makes work now (kept_by before answer)
makes (Ok value) before now answer is = ap (kept_by before) is
makes (Err failure) before now answer is = unless failure (stops before now answer failure) is
