-- What a status of the program says of its words, of the files that the store tells, and of what
-- was done to files and printed.
use Rattle.std.specs.Prelude.{◌≡◌, ◌⊎◌, ◌++◌, ℕ, List, true, Option, Some, None, IfSome, codes}
use Rattle.msb_laws.specs.Words.{Path, Text}
use Rattle.file_store.specs.Entries.{entries_of}
use Rattle.file_store.specs.Files.{are_in_order}
use Rattle.file_store.specs.Limits.{limit_fault}
use Rattle.file_store.specs.Loads.{OfListing, IsCaused, IsOfKind}
use Rattle.file_store.specs.declared.loading.LoadFault.{LoadFault}
use Rattle.file_store.specs.declared.loading.LoadFault.TheVariants.{Listing, Reading}
use Rattle.file_store.specs.declared.tree.File.{File}
use Rattle.msb_words.specs.Options.{options_in}
use Rattle.msb_words.specs.declared.options.Options.{Options}
use Rattle.msb_words.specs.declared.options.Action.TheVariants.{Build, Check, Trial}
use Rattle.build_report.specs.Line.{line}
use Rattle.msb_outcomes.specs.Outcomes.{Answering, HasProject, IsOutcomeOf, load_fault_text}
use Rattle.msb_program.specs.Endings.{
  StoreChange,
  Kept,
  SinkChange,
  Printed,
  PrintedAll,
  PrintedFront,
  Silent,
  EndsWhole,
  EndsRefused,
  EndsUnprinted,
  EndsUnwritten,
  EndsHalfway,
  StoreFailed,
  SinkFailed,
}
use Rattle.msb_outcomes.specs.Trials.{IsTrial}
use Rattle.build_outcome.specs.declared.outcome.Outcome.{Outcome}

abbrev pub usage : Text
usage =
    line (codes "usage: msb ACTION PROJECT [--target LIST] [--property LIST] [--nodes N] [--clean]"
    ++ codes " [--show low] [--size N]")

-- files in byte order and within the limits, which are the told ones where files are told
pub record AreLoaded (told : Option (List File)) (files : List File) : Type 0 where
  pub in_order : are_in_order files ≡ true
  pub within : limit_fault (entries_of files) ≡ None
  pub told_are : IfSome told (λ those. files ≡ those)

-- the words ask for a build or a check, which make runs
abbrev pub AsksForRuns : Option Options → Type 0
AsksForRuns None = ⊥
AsksForRuns (Some options) = (options.action ≡ Build) ⊎ (options.action ≡ Check)

-- the words ask for a project
abbrev pub AsksForProject : Option Options → Type 0
AsksForProject None = ⊥
AsksForProject (Some options) = HasProject options

-- the words ask for a trial, which has no project
abbrev pub AsksForTrial : Option Options → Type 0
AsksForTrial None = ⊥
AsksForTrial (Some options) = options.action ≡ Trial

-- 2: the words are outside the grammar
abbrev pub IsUsage : List Text → StoreChange → SinkChange → Type 0
IsUsage words s p = (options_in words ≡ None) × Kept s × Printed p usage

-- a load fails for this reason, by a call of its kind, and so it is told
pub record LoadFails (words : List Text) (s : StoreChange) (p : SinkChange)
    (fault : LoadFault) : Type 0 where
  pub asked : AsksForProject (options_in words)
  pub cause : IsCaused s.before s.after fault
  pub kind : IsOfKind s.before s.after fault
  pub kept : Kept s
  pub printed : Printed p (line (load_fault_text fault))

-- the store failed at its listing, or at the read of a file of a listing within the limits
abbrev pub IsStoreFault : LoadFault → Type 0
IsStoreFault fault = (fault ≡ Listing) ⊎ ((path : Path) × (fault ≡ Reading path))

abbrev pub IsLoadFailure : List Text → StoreChange → SinkChange → Type 0
IsLoadFailure words s p =
    (fault : LoadFault) × IsStoreFault fault × StoreFailed s × LoadFails words s p fault

-- 8: the listing that was got passes a limit
abbrev pub IsPastLimit : List Text → StoreChange → SinkChange → Type 0
IsPastLimit words s p =
    (fault : LoadFault) × OfListing s.before.tree (λ listing. limit_fault listing ≡ Some fault)
    × LoadFails words s p fault

-- the statuses of the program
abbrev pub IsStatus : ℕ → Type 0
IsStatus status =
    (status ≡ 0) ⊎ (status ≡ 1) ⊎ (status ≡ 2) ⊎ (status ≡ 3) ⊎ (status ≡ 4)
    ⊎ (status ≡ 5) ⊎ (status ≡ 6) ⊎ (status ≡ 7) ⊎ (status ≡ 8) ⊎ (status ≡ 9)

-- the words ask for a trial, and P holds of a text that it may print; no file is written or removed
pub record HasTrial (words : List Text) (s : StoreChange) (P : Text → Type 0) : Type 0 where
  pub options : Options
  pub asked : options_in words ≡ Some options
  pub trial : options.action ≡ Trial
  pub kept : Kept s
  pub text : Text
  pub is : IsTrial options text
  pub holds : P text

module _ (tools : Answering) where
  -- the words ask for a project, the store's files were loaded, and P holds of an outcome of both
  pub record HasOutcome (words : List Text) (told : Option (List File))
      (P : Outcome → Type 0)
      : Type 0 where
    pub options : Options
    pub asked : options_in words ≡ Some options
    pub project : HasProject options
    pub files : List File
    pub loaded : AreLoaded told files
    pub outcome : Outcome
    pub is : IsOutcomeOf tools options files outcome
    pub holds : P outcome

  -- 0: what the words ask for was done, its acts were done, and its text was printed whole
  abbrev pub IsDone : List Text → Option (List File) → StoreChange → SinkChange → Type 0
  IsDone words told s p =
      HasOutcome words told (λ o. (o.status ≡ 0) × EndsWhole s p o)
      ⊎ HasTrial words s (PrintedAll p)

  -- 1: the request failed, or a check has another verdict than that the set is steady; its acts
  -- were done, and its text was printed whole
  abbrev pub IsFailed : List Text → Option (List File) → StoreChange → SinkChange → Type 0
  IsFailed words told s p = HasOutcome words told (λ o. (o.status ≡ 1) × EndsWhole s p o)

  -- 3: the project is refused
  abbrev pub IsRefused : List Text → Option (List File) → StoreChange → SinkChange → Type 0
  IsRefused words told s p = HasOutcome words told (λ o. (o.status ≡ 3) × EndsRefused s p o)

  -- 4: the build is refused
  abbrev pub IsStopped : List Text → Option (List File) → StoreChange → SinkChange → Type 0
  IsStopped words told s p = HasOutcome words told (λ o. (o.status ≡ 4) × EndsRefused s p o)

  -- 9: a check has made as many bodies as it makes
  abbrev pub IsSpent : List Text → Option (List File) → StoreChange → SinkChange → Type 0
  IsSpent words told s p = HasOutcome words told (λ o. (o.status ≡ 9) × EndsRefused s p o)

  -- 5: the store's count of faults rose, in the load, or as the acts of an outcome were done
  abbrev pub IsStoreFailure : List Text → StoreChange → SinkChange → Type 0
  IsStoreFailure words s p =
      IsLoadFailure words s p
      ⊎ HasOutcome words s.before.tree (EndsUnwritten s p)

  -- 6: the sink's count of faults rose where all else was done
  abbrev pub IsSinkFailure : List Text → Option (List File) → StoreChange → SinkChange → Type 0
  IsSinkFailure words told s p =
      HasOutcome words told (EndsUnprinted s p)
      ⊎ HasTrial words s (λ text. SinkFailed p × PrintedFront p text)

  -- 7: want of memory, which may come at any place and prints nothing
  abbrev pub IsMemory : List Text → Option (List File) → StoreChange → SinkChange → Type 0
  IsMemory words told s p = Silent p × (Kept s ⊎ HasOutcome words told (EndsHalfway s))

  -- the words ask for a project, and the status is that of an outcome of it and the told files
  abbrev pub IsStatusOfProject : Options → Option (List File) → ℕ → Type 0
  IsStatusOfProject options told status =
      HasProject options
      × IfSome told (λ files. (outcome : Outcome) × IsOutcomeOf tools options files outcome
      × (status ≡ outcome.status))

  -- where neither failed, the status is 2, or that of an outcome, or that of a trial that was done,
  -- or want of memory
  abbrev pub IsStatusOf : Option Options → Option (List File) → ℕ → Type 0
  IsStatusOf None told status = status ≡ 2
  IsStatusOf (Some options) told status =
      IsStatusOfProject options told status ⊎ ((options.action ≡ Trial) × (status ≡ 0))

  -- What each status says.
  pub record Answers (words : List Text) (s : StoreChange) (p : SinkChange)
      (status : ℕ) : Type 0 where
    pub known : IsStatus status
    pub done : status ≡ 0 → IsDone words s.before.tree s p
    pub failed : status ≡ 1 → IsFailed words s.before.tree s p
    pub usage : status ≡ 2 → IsUsage words s p
    pub refused : status ≡ 3 → IsRefused words s.before.tree s p
    pub stopped : status ≡ 4 → IsStopped words s.before.tree s p
    pub store : status ≡ 5 → IsStoreFailure words s p
    pub sink : status ≡ 6 → IsSinkFailure words s.before.tree s p
    pub memory : status ≡ 7 → IsMemory words s.before.tree s p
    pub limited : status ≡ 8 → IsPastLimit words s p
    pub spent : status ≡ 9 → IsSpent words s.before.tree s p
    pub unfailing : ¬ StoreFailed s → ¬ SinkFailed p →
        (status ≡ 7) ⊎ IsStatusOf (options_in words) s.before.tree status
