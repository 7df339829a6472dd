-- What a status of the program says where the world of a build is whole and steady: its files and
-- its text are those of its meaning. (MSBuild command-line reference)
use Rattle.std.specs.Prelude.{◌≡◌, ◌⊎◌, ℕ, List, [], Option, Some, None}
use Rattle.msb_laws.specs.Words.{Text}
use Rattle.file_store.specs.Entries.{entries_of}
use Rattle.file_store.specs.Limits.{limit_fault}
use Rattle.file_store.specs.declared.tree.File.{File}
use Rattle.msb_paths.specs.Refused.{normal_path}
use Rattle.result_cache.specs.declared.request.RequestResult.{RequestResult}
use Rattle.task_trait.specs.declared.tools.ToolInput.{ToolInput}
use Rattle.build_meaning.specs.Demand.{IsWhole, IsSteady}
use Rattle.build_meaning.specs.Meaning.{Given}
use Rattle.build_world.specs.declared.world.World.{World}
use Rattle.build_outcome.specs.Outcomes.{built}
use Rattle.build_outcome.specs.declared.outcome.Outcome.{Outcome}
use Rattle.request_machine.specs.Walk.{Site}
use Rattle.request_machine.specs.Worlds.{world_of}
use Rattle.msb_words.specs.Options.{options_in}
use Rattle.msb_words.specs.declared.options.Options.{Options}
use Rattle.msb_program.specs.Answers.{IsLoadFailure}
use Rattle.msb_program.specs.Endings.{
  StoreChange,
  Kept,
  SinkChange,
  Silent,
  EndsWhole,
  EndsUnprinted,
  EndsUnwritten,
  EndsHalfway,
  StoreFailed,
  SinkFailed,
}
use Rattle.msb_outcomes.specs.Outcomes.{Answering, IsWorkAt}
use Rattle.msb_outcomes.specs.declared.work.Work.TheVariants.{Build}

-- the words ask for a build of the files that the store tells, which is given this
pub record IsAskedOf (words : List Text) (told : Option (List File)) (given : World) : Type 0 where
  pub options : Options
  pub asked : options_in words ≡ Some options
  pub files : List File
  pub told_are : told ≡ Some files
  pub within : limit_fault (entries_of files) ≡ None
  pub is : IsWorkAt options files (normal_path [] options.project) (Build given)

-- the world of the build that the words ask for is whole and steady, and this is the outcome that
-- it means
pub record Means (tools : Answering) (words : List Text) (told : Option (List File))
    (meant : Outcome) : Type 0 where
  pub given : World
  pub build : IsAskedOf words told given
  pub out : Given Site ToolInput RequestResult
  pub whole : IsWhole (world_of tools given) out
  pub steady : IsSteady out.demand
  pub is : meant ≡ built build.options.low out.value out.journal

-- What each status then says: the build is not refused, and its files and its text are those of the
-- meaning's outcome.
pub record AnswersMeant (words : List Text) (s : StoreChange) (p : SinkChange)
    (meant : Outcome) (status : ℕ) : Type 0 where
  pub known : (status ≡ 0) ⊎ (status ≡ 1) ⊎ (status ≡ 5) ⊎ (status ≡ 6) ⊎ (status ≡ 7)
  pub done : (status ≡ 0) ⊎ (status ≡ 1) → (status ≡ meant.status) × EndsWhole s p meant
  pub store : status ≡ 5 → IsLoadFailure words s p
      ⊎ EndsUnwritten s p meant
  pub sink : status ≡ 6 → EndsUnprinted s p meant
  pub memory : status ≡ 7 → Silent p × (Kept s ⊎ EndsHalfway s meant)
  pub unfailing : ¬ StoreFailed s → ¬ SinkFailed p
      → (status ≡ 7) ⊎ (status ≡ meant.status)
