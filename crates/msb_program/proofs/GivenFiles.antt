-- What a build is given that the words ask for: the files that the store tells.
use Rattle.std.proofs.Common.{
  ◌≡◌,
  ℕ,
  List,
  [],
  Option,
  None,
  Some,
  Result,
  Ok,
  Err,
  IfSome,
  IsSomeAnd,
  refl,
  sym,
  ap,
  ◌∙◌,
}
use Rattle.msb_values.specs.declared.key.InstanceKey.{InstanceKey}
use Rattle.msb_paths.specs.Refused.{normal_path}
use Rattle.msb_paths.specs.declared.errors.NormalFault.{NormalFault}
use Rattle.file_store.specs.Files.{file_at}
use Rattle.file_store.specs.declared.tree.File.{File}
use Rattle.build_world.specs.declared.fault.EvalFault.{EvalFault}
use Rattle.build_world.specs.declared.world.World.{World}
use Rattle.msb_instance.specs.Evaluated.{Instance, evaluated}
use Rattle.result_cache.specs.declared.request.RequestResult.{RequestResult}
use Rattle.task_trait.specs.declared.tools.ToolInput.{ToolInput}
use Rattle.build_meaning.specs.Demand.{IsSteady, IsWhole}
use Rattle.build_meaning.specs.Meaning.{Given}
use Rattle.build_outcome.specs.Outcomes.{built}
use Rattle.build_outcome.specs.declared.outcome.Outcome.{Outcome}
use Rattle.request_machine.specs.Walk.{Site}
use Rattle.request_machine.specs.Worlds.{world_of}
use Rattle.msb_words.specs.declared.options.Options.{Options}
use Rattle.msb_words.specs.declared.options.Action.{Action}
use Rattle.msb_words.specs.declared.options.Action.TheVariants.{
  Build as ToBuild,
  Check as ToCheck,
  Eval,
  Targets,
  Trial,
}
use Rattle.msb_outcomes.specs.Outcomes.{
  Answering,
  IsWorkAt,
  IsWorkOfAction,
  IsWorkOfFile,
  IsWorkOfInstance,
  key_at,
}
use Rattle.msb_outcomes.specs.declared.work.Work.TheVariants.{Told, Build}
use Rattle.msb_program.specs.Meanings.{IsAskedOf, Means}

-- what is told is no build
untold : (given : World) (o : Outcome) → Build given ≡ Told o → ⊥
untold given o is = cc

module _ (files : List File) (given : World) where
  module _ (options : Options) (key : InstanceKey) where
    files_of_action : (action : Action) (instance : Instance) →
        IsWorkOfAction action options key files instance (Build given) → given.tree.files ≡ files
    files_of_action ToBuild instance is = is.tree
    files_of_action ToCheck instance is = absurd is
    files_of_action Eval instance is = absurd (untold given _ is)
    files_of_action Targets instance is = absurd (untold given _ is)
    files_of_action Trial instance is = absurd is

    files_of_instance : (result : Result Instance EvalFault) →
        IsWorkOfInstance options key files result (Build given) → given.tree.files ≡ files
    files_of_instance (Ok instance) is = files_of_action options.action instance is
    files_of_instance (Err fault) is = absurd (untold given _ is)

    files_of_file : (file : Option File) →
        IsWorkOfFile options key files file (Build given) → given.tree.files ≡ files
    files_of_file None is = absurd (untold given _ is)
    files_of_file (Some file) is = files_of_instance (evaluated files key) is

  files_given : (options : Options) (path : Result (List ℕ) NormalFault) →
      IsWorkAt options files path (Build given) → given.tree.files ≡ files
  files_given options (Ok path) is =
      let key : InstanceKey = key_at path options in
      files_of_file options key (file_at path files) is
  files_given options (Err fault) is = absurd (untold given _ is)

pub given_told : (words : List (List ℕ)) (told : Option (List File)) (given : World) →
    (build : IsAskedOf words told given) → told ≡ Some given.tree.files
given_told words told given build =
    build.told_are
    ∙ ap Some (sym (files_given build.files given build.options
    (normal_path [] build.options.project) build.is))

-- the outcome that its meaning tells
abbrev pub means_of : (tools : Answering) (words : List (List ℕ)) (told : Option (List File))
    (given : World) (build : IsAskedOf words told given)
    (out : Given Site ToolInput RequestResult) →
    IsWhole (world_of tools given) out → IsSteady out.demand →
    Means tools words told (built build.options.low out.value out.journal)
means_of tools words told given build out whole steady = record {
  given = given;
  build = build;
  out = out;
  whole = whole;
  steady = steady;
  is = refl;
}

-- what follows for each two trees follows where the store tells them
pub told_so : (P Q : List File → List File → Type 0) (before after : Option (List File)) →
    ((b a : List File) → before ≡ Some b → P b a → Q b a) →
    IfSome before (λ files. IsSomeAnd after (P files)) →
    IfSome before (λ files. IsSomeAnd after (Q files))
told_so P Q None after to h = tt
told_so P Q (Some b) None to h = absurd h
told_so P Q (Some b) (Some a) to h = to b a refl h
