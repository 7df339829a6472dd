-- What is told without a build, and when there is one.
use Rattle.std.proofs.Common.{
  ◌≡◌,
  ◌≢◌,
  ◌⊎◌,
  ℕ,
  List,
  Option,
  Some,
  None,
  IsSome,
  Result,
  Ok,
  Err,
  IfOk,
  inl,
  inr,
  refl,
  ap,
  sym,
  subst,
  ◌∙◌,
  [],
  true≢false,
}
use Rattle.msb_values.specs.Caused.{UnlessMemory}
use Rattle.msb_values.specs.declared.cause.Cause.{Cause}
use Rattle.msb_values.specs.declared.cause.Cause.TheVariants.{Memory}
use Rattle.msb_values.specs.declared.errors.NoMemory.{NoMemory}
use Rattle.msb_values.specs.declared.key.InstanceKey.{InstanceKey}
use Rattle.file_store.specs.declared.tree.File.{File}
use Rattle.msb_paths.specs.declared.errors.NormalFault.{NormalFault}
use Rattle.build_world.specs.Faults.{fault_text}
use Rattle.build_world.specs.declared.fault.EvalFault.{EvalFault}
use Rattle.build_world.specs.declared.world.World.{World}
use Rattle.msb_instance.specs.Evaluated.{Instance, evaluated}
use Rattle.file_store.specs.Files.{file_at}
use Rattle.build_outcome.specs.declared.outcome.Outcome.{Outcome}
use Rattle.msb_words.specs.declared.options.Options.{Options}
use Rattle.msb_words.specs.declared.options.Action.{Action}
use Rattle.msb_words.specs.declared.options.Action.TheVariants.{
  Build as ToBuild,
  Check as ToCheck,
  Eval,
  Targets,
  Trial,
}
use Rattle.msb_outcomes.specs.declared.work.Work.{Work}
use Rattle.msb_outcomes.specs.declared.work.Work.TheVariants.{Told, Build, Check}
use Rattle.msb_outcomes.specs.Outcomes.{
  HasStatus,
  IsUnfinished,
  MakesRuns,
  IsWorkAt,
  IsWorkOfAction,
  IsWorkOfFile,
  IsWorkOfInstance,
  key_at,
  refused,
}
use Rattle.build_engine.specs.Statuses.{IsCompletion, IsRefusal}

-- a refusal is one of the ways to stop
pub also_stops : (status : ℕ) → IsCompletion status ⊎ IsRefusal status →
    IsCompletion status ⊎ IsUnfinished status
also_stops status (inl done) = inl done
also_stops status (inr refused) = inr (inl refused)

pub each_stops : (made : Result Outcome NoMemory) →
    IfOk made (λ o. IsCompletion o.status ⊎ IsRefusal o.status) →
    IfOk made (λ o. IsCompletion o.status ⊎ IsUnfinished o.status)
each_stops (Ok o) known = also_stops o.status known
each_stops (Err fault) known = tt

-- the status of what is told
abbrev status_in : Work → ℕ
status_in (Told outcome) = outcome.status
status_in (Build given) = 0
status_in (Check given) = 0

shown_status : (o : Outcome) (work : Work) → status_in work ≡ 0 → Told o ≡ work
    → IsCompletion o.status ⊎ IsRefusal o.status
shown_status o work zero_is is = inl (inl (ap status_in is ∙ zero_is))

refused_status : (o : Outcome) (work : Work) → status_in work ≡ 3 → Told o ≡ work
    → IsCompletion o.status ⊎ IsRefusal o.status
refused_status o work three_is is = inr (inl (ap status_in is ∙ three_is))

module _ (options : Options) (key : InstanceKey) (files : List File) where
  told_of_action : (action : Action) (instance : Instance) (o : Outcome)
      → IsWorkOfAction action options key files instance (Told o)
      → IsCompletion o.status ⊎ IsRefusal o.status
  told_of_action ToBuild instance o is = absurd is
  told_of_action ToCheck instance o is = absurd is
  told_of_action Eval instance o is = shown_status o _ refl is
  told_of_action Targets instance o is = shown_status o _ refl is
  told_of_action Trial instance o is = absurd is

  told_of_instance : (result : Result Instance EvalFault) (o : Outcome)
      → IsWorkOfInstance options key files result (Told o)
      → IsCompletion o.status ⊎ IsRefusal o.status
  told_of_instance (Ok instance) o is = told_of_action options.action instance o is
  told_of_instance (Err fault) o is = refused_status o _ refl is

  told_of_file : (file : Option File) (o : Outcome) → IsWorkOfFile options key files file (Told o)
      → IsCompletion o.status ⊎ IsRefusal o.status
  told_of_file None o is = refused_status o _ refl is
  told_of_file (Some file) o is = told_of_instance (evaluated files key) o is

  apart : (given : World) (o : Outcome) → Build given ≡ Told o → ⊥
  apart given o is = cc

  built_of_action : (action : Action) (instance : Instance) (given : World)
      → IsWorkOfAction action options key files instance (Build given) → action ≡ ToBuild
  built_of_action ToBuild instance given is = refl
  built_of_action ToCheck instance given is = absurd is
  built_of_action Eval instance given is = absurd (apart given _ is)
  built_of_action Targets instance given is = absurd (apart given _ is)
  built_of_action Trial instance given is = absurd is

  built_of_instance : (result : Result Instance EvalFault) (given : World)
      → IsWorkOfInstance options key files result (Build given) → options.action ≡ ToBuild
  built_of_instance (Ok instance) given is = built_of_action options.action instance given is
  built_of_instance (Err fault) given is = absurd (apart given _ is)

  built_of_file : (file : Option File) (given : World)
      → IsWorkOfFile options key files file (Build given) → options.action ≡ ToBuild
  built_of_file None given is = absurd (apart given _ is)
  built_of_file (Some file) given is = built_of_instance (evaluated files key) given is

  besides : (given : World) (o : Outcome) → Check given ≡ Told o → ⊥
  besides given o is = cc

  checked_of_action : (action : Action) (instance : Instance) (given : World)
      → IsWorkOfAction action options key files instance (Check given) → action ≡ ToCheck
  checked_of_action ToBuild instance given is = absurd is
  checked_of_action ToCheck instance given is = refl
  checked_of_action Eval instance given is = absurd (besides given _ is)
  checked_of_action Targets instance given is = absurd (besides given _ is)
  checked_of_action Trial instance given is = absurd is

  checked_of_instance : (result : Result Instance EvalFault) (given : World)
      → IsWorkOfInstance options key files result (Check given) → options.action ≡ ToCheck
  checked_of_instance (Ok instance) given is = checked_of_action options.action instance given is
  checked_of_instance (Err fault) given is = absurd (besides given _ is)

  checked_of_file : (file : Option File) (given : World)
      → IsWorkOfFile options key files file (Check given) → options.action ≡ ToCheck
  checked_of_file None given is = absurd (besides given _ is)
  checked_of_file (Some file) given is = checked_of_instance (evaluated files key) given is

module _ (options : Options) (files : List File) where
  -- what is told without a build is done, or the project is refused
  pub told_status : (path : Result (List ℕ) NormalFault) (o : Outcome)
      → IsWorkAt options files path (Told o) → IsCompletion o.status ⊎ IsRefusal o.status
  told_status (Ok path) o is = let key : InstanceKey = key_at path options in told_of_file options
      key files (file_at path files) o is
  told_status (Err fault) o is = refused_status o _ refl is

  -- there is a build only where one is asked for
  pub build_is_asked : (path : Result (List ℕ) NormalFault) (given : World)
      → IsWorkAt options files path (Build given) → options.action ≡ ToBuild
  build_is_asked (Ok path) given is = let key : InstanceKey = key_at path options in built_of_file
      options key files (file_at path files) given is
  build_is_asked (Err fault) given is = let key : InstanceKey = key_at [] options in absurd
      (apart options key files given _ is)

  -- and a check too
  pub check_is_asked : (path : Result (List ℕ) NormalFault) (given : World)
      → IsWorkAt options files path (Check given) → options.action ≡ ToCheck
  check_is_asked (Ok path) given is = let key : InstanceKey = key_at path options in checked_of_file
      options key files (file_at path files) given is
  check_is_asked (Err fault) given is = let key : InstanceKey = key_at [] options in absurd
      (besides options key files given _ is)

  pub has_status : (path : Result (List ℕ) NormalFault) (work : Work)
      → IsWorkAt options files path work → HasStatus work
  has_status path (Told o) is = told_status path o is
  has_status path (Build given) is = tt
  has_status path (Check given) is = tt

  pub runs_asked : (path : Result (List ℕ) NormalFault) (work : Work)
      → IsWorkAt options files path work → MakesRuns work
      → (options.action ≡ ToBuild) ⊎ (options.action ≡ ToCheck)
  runs_asked path (Told o) is makes = absurd makes
  runs_asked path (Build given) is makes = inl (build_is_asked path given is)
  runs_asked path (Check given) is makes = inr (check_is_asked path given is)

-- an answer whose fault is no want of memory
caused : (cause : Cause) (P : Type 0) → UnlessMemory cause P → cause ≢ Memory → P
caused Memory P given never = absurd (never refl)
caused cause P given never = given

-- a project that is evaluated to a fault is refused
pub refused_work : (options : Options) (key : InstanceKey) (files : List File) (file : Option File)
    → IsSome file → (fault : EvalFault) (made : Result Work NoMemory)
    → UnlessMemory fault.cause (evaluated files key ≡ Err fault)
    → IfOk made (λ work. work ≡ Told (refused (fault_text fault)))
    → IfOk made (λ _. fault.cause ≢ Memory) → IfOk made (IsWorkOfFile options key files file)
refused_work options key files None there fault made given is never =
    absurd (true≢false (sym there))
refused_work options key files (Some file) there fault (Err none) given is never = tt
refused_work options key files (Some file) there fault (Ok work) given is never =
    subst (λ (result : Result Instance EvalFault). IsWorkOfInstance options key files result work)
    (sym (caused fault.cause (evaluated files key ≡ Err fault) given never)) is
