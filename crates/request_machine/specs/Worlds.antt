-- The world of a build: its root request, and what each request and each run does, by the files,
-- the mode and the tools. (MSBuild command-line reference; MSBuild task)
use Rattle.std.specs.Prelude.{
  List,
  [],
  ◌∷◌,
  Bool,
  true,
  false,
  Option,
  Some,
  None,
  Result,
  Ok,
  Err,
}
use Rattle.msb_laws.specs.Words.{Name}
use Rattle.msb_values.specs.declared.mode.Mode.{Mode}
use Rattle.msb_values.specs.declared.scope.Scope.{Scope}
use Rattle.file_store.specs.Files.{file_at}
use Rattle.file_store.specs.declared.tree.File.{File}
use Rattle.build_world.specs.Faults.{fault_text, not_found_text}
use Rattle.build_world.specs.Instances.{Instance, UsedTarget}
use Rattle.build_world.specs.declared.fault.EvalFault.{EvalFault}
use Rattle.build_world.specs.declared.world.World.{World as Given}
use Rattle.msb_instance.specs.Evaluated.{evaluated}
use Rattle.result_cache.specs.Journal.{Journal}
use Rattle.result_cache.specs.declared.request.RequestKey.{RequestKey}
use Rattle.result_cache.specs.declared.run.RunId.{RunId}
use Rattle.task_trait.specs.declared.tools.ToolAnswer.{ToolAnswer}
use Rattle.task_trait.specs.declared.tools.ToolInput.{ToolInput}
use Rattle.build_meaning.specs.Walk.{Walk, gives, Body, makes, Outcome, Reply}
use Rattle.build_meaning.specs.World.{World}
use Rattle.target_body.specs.Bodies.{body}
use Rattle.target_body.specs.States.{run_at}
use Rattle.request_machine.specs.Requests.{Project, target_at, unevaluated}
use Rattle.request_machine.specs.Walk.{Site, run_of, walk_in}

-- nothing is made of a target that the project has not; the order asks for none
abbrev pub nothing_made : Outcome
nothing_made = record { ok = true; decisions = []; items = []; changes = []; notes = [] }

-- what the run of a target does
abbrev pub body_at : List File → Mode → RunId → Option UsedTarget → Scope → Journal →
    Body ToolInput ToolAnswer
body_at files mode id None scope journal = makes nothing_made
body_at files mode id (Some target) scope journal = body mode (run_at files id target) scope journal

abbrev pub body_if : Given → RunId → Option UsedTarget → Scope → Journal → Body ToolInput ToolAnswer
body_if w = body_at w.tree.files w.mode

-- what the runs of targets do, by scope and journal
abbrev pub Bodies : Type 0
Bodies = Name → Scope → Journal → Body ToolInput ToolAnswer

-- what the runs of a project's targets do
abbrev pub bodies_at : List File → Mode → Project → Bodies
bodies_at files mode p name scope journal =
    body_at files mode (run_of p.key name) (target_at p name) scope journal

abbrev pub bodies_of : Given → Project → Bodies
bodies_of w = bodies_at w.tree.files w.mode

abbrev pub project_of : Given → RequestKey → Instance → Project
project_of w key instance = record { files = w.tree.files; key = key.instance; instance = instance }

-- what a project evaluates to, or what is replied where it is refused
abbrev pub instance_by : Result Instance EvalFault → Result Instance Reply
instance_by (Ok instance) = Ok instance
instance_by (Err fault) = Err (unevaluated (fault_text fault))

-- a project that is not among the files is not evaluated
abbrev pub instance_if : List File → RequestKey → Option File → Result Instance Reply
instance_if files key None = Err (unevaluated (not_found_text key.instance.path))
instance_if files key (Some file) = instance_by (evaluated files key.instance)

abbrev pub instances_of : List File → RequestKey → Result Instance Reply
instances_of files key = instance_if files key (file_at key.instance.path files)

-- a request, by what its project evaluates to
abbrev pub request_by : List File → Mode → RequestKey → Journal → Result Instance Reply →
    Walk Site ToolInput ToolAnswer
request_by files mode key journal (Ok instance) =
    let p : Project = record { files = files; key = key.instance; instance = instance } in
    walk_in p key (bodies_at files mode p) journal
request_by files mode key journal (Err reply) = gives reply

abbrev pub walk_of : Given → RequestKey → Journal → Walk Site ToolInput ToolAnswer
walk_of w key journal =
    request_by w.tree.files w.mode key journal (instances_of w.tree.files key)

-- the default targets of the root are asked for where none is named
abbrev pub is_some_named : List Name → Bool
is_some_named [] = false
is_some_named (name ∷ names) = true

abbrev pub root_of : Given → RequestKey
root_of w = record {
  instance = record { path = w.root; globals = w.globals };
  targets = w.targets;
  named =
      is_some_named w.targets;
}

abbrev pub world_of : (Name → ToolInput → ToolAnswer) → Given →
    World Site ToolInput ToolAnswer
world_of tools w = record { root = root_of w; tools = tools; walks = walk_of w }
