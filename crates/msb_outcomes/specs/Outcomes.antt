-- What the program does: which outcomes the words have over the files.
use Rattle.std.specs.Prelude.{
  ◌≡◌,
  ◌≢◌,
  ◌⊎◌,
  ℕ,
  List,
  [],
  ◌++◌,
  Bool,
  true,
  false,
  Option,
  Some,
  None,
  Result,
  Ok,
  Err,
  codes,
}
use Rattle.std.specs.Fmt.{decimal}
use Rattle.msb_laws.specs.Words.{Name, Path, Text}
use Rattle.msb_values.specs.declared.key.InstanceKey.{InstanceKey}
use Rattle.msb_values.specs.declared.mode.Mode.{Mode}
use Rattle.msb_values.specs.declared.mode.Mode.TheVariants.{Incremental, Clean}
use Rattle.file_store.specs.Files.{file_at}
use Rattle.file_store.specs.Entries.{entries_of}
use Rattle.file_store.specs.Limits.{limit_fault}
use Rattle.file_store.specs.declared.tree.File.{File}
use Rattle.file_store.specs.declared.loading.LoadFault.{LoadFault}
use Rattle.file_store.specs.declared.loading.LoadFault.TheVariants.{
  Listing,
  Reading,
  Files,
  Bytes,
  Large,
  BadPath,
  Memory,
}
use Rattle.msb_paths.specs.Refused.{normal_path}
use Rattle.msb_paths.specs.declared.errors.NormalFault.{NormalFault}
use Rattle.task_trait.specs.declared.tools.ToolAnswer.{ToolAnswer}
use Rattle.task_trait.specs.declared.tools.ToolInput.{ToolInput}
use Rattle.build_world.specs.Faults.{fault_text, not_found_text}
use Rattle.build_world.specs.declared.fault.EvalFault.{EvalFault}
use Rattle.build_world.specs.declared.world.World.{World}
use Rattle.msb_instance.specs.Evaluated.{Instance, evaluated}
use Rattle.build_report.specs.Eval.{eval_text}
use Rattle.build_report.specs.Line.{line}
use Rattle.build_report.specs.Targets.{targets_text}
use Rattle.request_machine.specs.Worlds.{world_of}
use Rattle.build_outcome.specs.Outcomes.{IsOutcome, of_text}
use Rattle.build_outcome.specs.declared.outcome.Outcome.{Outcome}
use Rattle.build_engine.specs.Statuses.{IsCompletion, IsRefusal}
use Rattle.build_steady.specs.Verdicts.{verdict_of}
use Rattle.msb_outcomes.specs.Checked.{checked}
use Rattle.msb_outcomes.specs.declared.work.Work.{Work}
use Rattle.msb_outcomes.specs.declared.work.Work.TheVariants.{Told, Build, Check}
use Rattle.msb_words.specs.declared.options.Options.{Options}
use Rattle.msb_words.specs.declared.options.Action.{Action}
use Rattle.msb_words.specs.declared.options.Action.TheVariants.{
  Build as ToBuild,
  Check as ToCheck,
  Eval,
  Targets,
  Trial,
}

-- a project that is refused for this reason
abbrev pub refused : Text → Outcome
refused reason = of_text 3 (line (codes "project refused") ++ line (codes "  " ++ reason))

abbrev pub not_found : Text → Outcome
not_found word = refused (not_found_text word)

-- what was asked for is shown
abbrev pub shown : Text → Outcome
shown text = of_text 0 text

-- the words ask for a project, and not for a trial
abbrev pub HasProject : Options → Type 0
HasProject options = options.action ≢ Trial

-- whether a build skips what is up to date (How to build incrementally)
abbrev pub mode_of : Bool → Mode
mode_of true = Clean
mode_of false = Incremental

-- what a build is given: the files, the root project, and what the words say of it
pub record IsAsked (options : Options) (key : InstanceKey) (files : List File)
    (given : World) : Type 0 where
  pub tree : given.tree.files ≡ files
  pub root : given.root ≡ key.path
  pub globals : given.globals ≡ key.globals
  pub targets : given.targets ≡ options.targets
  pub mode : given.mode ≡ mode_of options.clean

-- the project at a path, with the global properties of the words
abbrev pub key_at : Path → Options → InstanceKey
key_at path options = record { path = path; globals = options.globals }

-- how a load failed, or which limit the listing passes
abbrev pub load_fault_text : LoadFault → Text
load_fault_text Listing = codes "store fault"
load_fault_text (Reading path) = codes "store fault " ++ path
load_fault_text (Files number) = codes "too large: " ++ decimal number ++ codes " files"
load_fault_text (Bytes total) = codes "too large: " ++ decimal total ++ codes " bytes"
load_fault_text (Large path) = codes "too large: " ++ path
load_fault_text (BadPath path) = codes "bad path: " ++ path
load_fault_text Memory = []

-- the status of a failed load, which for want of memory is said of no listing
abbrev pub fault_status : LoadFault → ℕ
fault_status Listing = 5
fault_status (Reading path) = 5
fault_status (Files number) = 8
fault_status (Bytes total) = 8
fault_status (Large path) = 8
fault_status (BadPath path) = 8
fault_status Memory = 7

-- the files are not loaded
abbrev pub unloaded : LoadFault → Outcome
unloaded fault = of_text (fault_status fault) (line (load_fault_text fault))

-- how tools answer, by their names and what they are handed
abbrev pub Answering : Type 0
Answering = Name → ToolInput → ToolAnswer

-- what is given is built
abbrev pub IsBuildOf : Options → InstanceKey → List File → Work → Type 0
IsBuildOf options key files (Told outcome) = ⊥
IsBuildOf options key files (Build given) = IsAsked options key files given
IsBuildOf options key files (Check given) = ⊥

-- what is given is checked
abbrev pub IsCheckOf : Options → InstanceKey → List File → Work → Type 0
IsCheckOf options key files (Told outcome) = ⊥
IsCheckOf options key files (Build given) = ⊥
IsCheckOf options key files (Check given) = IsAsked options key files given

-- an evaluated project is built or checked, or it or its targets are shown; a trial has none
abbrev pub IsWorkOfAction : Action → Options → InstanceKey → List File → Instance → Work → Type 0
IsWorkOfAction ToBuild options key files instance work = IsBuildOf options key files work
IsWorkOfAction ToCheck options key files instance work = IsCheckOf options key files work
IsWorkOfAction Eval options key files instance work =
    work ≡ Told (shown (eval_text instance.scope instance.duplicates))
IsWorkOfAction Targets options key files instance work =
    work ≡ Told (shown (targets_text instance.rows instance.initial instance.default))
IsWorkOfAction Trial options key files instance work = ⊥

abbrev pub IsWorkOfInstance :
    Options → InstanceKey → List File → Result Instance EvalFault → Work → Type 0
IsWorkOfInstance options key files (Ok instance) work =
    IsWorkOfAction options.action options key files instance work
IsWorkOfInstance options key files (Err fault) work = work ≡ Told (refused (fault_text fault))

abbrev pub IsWorkOfFile : Options → InstanceKey → List File → Option File → Work → Type 0
IsWorkOfFile options key files None work = work ≡ Told (not_found options.project)
IsWorkOfFile options key files (Some file) work =
    IsWorkOfInstance options key files (evaluated files key) work

-- the project's file is the one at the normal path that the word gives from the root of the store
abbrev pub IsWorkAt : Options → List File → Result Path NormalFault → Work → Type 0
IsWorkAt options files (Ok path) work =
    IsWorkOfFile options (key_at path options) files (file_at path files) work
IsWorkAt options files (Err fault) work = work ≡ Told (not_found options.project)

-- the status where the project or its build is refused, or a check is given up: nothing is done
abbrev pub IsUnfinished : ℕ → Type 0
IsUnfinished status = IsRefusal status ⊎ (status ≡ 9)

-- what is told at once is done, or the project is refused
abbrev pub HasStatus : Work → Type 0
HasStatus (Told outcome) = IsCompletion outcome.status ⊎ IsRefusal outcome.status
HasStatus (Build given) = Unit {0}
HasStatus (Check given) = Unit {0}

-- the work is a build or a check, which make runs
abbrev pub MakesRuns : Work → Type 0
MakesRuns (Told outcome) = ⊥
MakesRuns (Build given) = Unit {0}
MakesRuns (Check given) = Unit {0}

module _ (tools : Answering) where
  -- what may come of the work: of a build, what some legal history of its requests leads to; of a
  -- check, the verdict of its world
  abbrev pub ComesOf : Bool → Work → Outcome → Type 0
  ComesOf low (Told outcome) told = told ≡ outcome
  ComesOf low (Build given) outcome = ∥ IsOutcome (world_of tools given) low outcome ∥₁
  ComesOf low (Check given) outcome = outcome ≡ checked (verdict_of (world_of tools given))

  abbrev pub IsOutcomeAt : Options → List File → Result Path NormalFault → Outcome → Type 0
  IsOutcomeAt options files path outcome =
      (work : Work) × IsWorkAt options files path work × ComesOf options.low work outcome

  abbrev pub IsOutcomeWithin : Options → List File → Option LoadFault → Outcome → Type 0
  IsOutcomeWithin options files (Some fault) outcome = outcome ≡ unloaded fault
  IsOutcomeWithin options files None outcome =
      IsOutcomeAt options files (normal_path [] options.project) outcome

  -- an outcome of what the words ask for over these files
  abbrev pub IsOutcomeOf : Options → List File → Outcome → Type 0
  IsOutcomeOf options files outcome =
      IsOutcomeWithin options files (limit_fault (entries_of files)) outcome
