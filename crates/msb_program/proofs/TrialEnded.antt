-- The answer of the program where the words ask for a trial.
use Rattle.std.proofs.Common.{◌≡◌, ℕ, List, Some, Result, Ok, Err, IfOk, inl, inr, refl, sym, subst}
use Rattle.msb_laws.specs.Words.{Text}
use Rattle.file_store.specs.Seen.{SinkSeen}
use Rattle.msb_values.specs.declared.errors.NoMemory.{NoMemory}
use Rattle.msb_words.specs.Options.{options_in}
use Rattle.msb_words.specs.declared.options.Options.{Options}
use Rattle.msb_program.specs.Answers.{Answers, AsksForTrial, HasTrial, IsStatusOf}
use Rattle.msb_program.specs.Endings.{
  EndsTrial,
  SinkChange,
  PrintedAll,
  PrintedFront,
  StoreChange,
  SinkFailed,
}
use Rattle.msb_outcomes.specs.Outcomes.{Answering, HasProject}
use Rattle.msb_program.specs.Prepared.{IsTrialAsked}
use Rattle.msb_outcomes.specs.Trials.{IsTrial}
use Rattle.msb_program.proofs.Claims.{answers_at, memory_answers}
use Rattle.msb_program.proofs.Parts.{sinks}

module _ (tools : Answering) (words : List (List ℕ)) (s : StoreChange)
    (before p : SinkChange) (options : Options) (trial : IsTrialAsked words s before options) where
  having : (text : List ℕ) (P : List ℕ → Type 0) → IsTrial options text → P text →
      HasTrial words s P
  having text P is holds = record {
    options = options;
    asked = trial.asked;
    trial = trial.trial;
    kept = trial.kept;
    text = text;
    is = is;
    holds = holds;
  }

  -- how a trial ended
  ended_answers : (made : Result (List ℕ) NoMemory) → IfOk made (IsTrial options) →
      (status : ℕ) → EndsTrial made p status → Answers tools words s p status
  ended_answers (Ok text) is status (inl ends) =
      answers_at tools words s p 0 (inl refl) (inr (having text (PrintedAll p) is ends.1)) status
      ends.0 (λ store sink.
      inr (subst (λ asks. IsStatusOf tools asks s.before.tree status) (sym trial.asked)
      (inr (trial.trial, ends.0))))
  ended_answers (Ok text) is status (inr ends) =
      answers_at tools words s p 6 (inr (inr (inr (inr (inr (inr (inl refl)))))))
      (inr (having text (λ printed. SinkFailed p × PrintedFront p printed) is
      (ends.1, ends.2))) status ends.0
      (λ store sink. absurd (sink ends.1))
  ended_answers (Err none) is status ends =
      memory_answers tools words s p status ends.0 (ends.1, inl trial.kept)

pub trial_answers : (tools : Answering) {words : List Text} {s : StoreChange}
    {old printed new : SinkSeen} (options : Options) →
    IsTrialAsked words s (sinks old printed) options → (made : Result Text NoMemory) →
    IfOk made (IsTrial options) → (status : ℕ) → EndsTrial made (sinks printed new) status →
    Answers tools words s (sinks old new) status
trial_answers tools {words} {s} {old} {printed} {new} options trial made is status ends =
    ended_answers tools words s (sinks old printed) (sinks old new) options trial made is status
    (subst (λ (first : SinkSeen). EndsTrial made (sinks first new) status) trial.silent ends)

-- what asks for a project asks for no trial
pub no_trial : (words : List (List ℕ)) (options : Options) → options_in words ≡ Some options →
    HasProject options → AsksForTrial (options_in words) → ⊥
no_trial words options asked project trial = project (subst AsksForTrial asked trial)
