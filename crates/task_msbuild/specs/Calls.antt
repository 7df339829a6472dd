-- The requests that the task calls: of each project that is there, with all targets or with each by
-- itself. (MSBuild task)
use Rattle.std.specs.Prelude.{
  ℕ,
  List,
  [],
  ◌∷◌,
  Bool,
  true,
  false,
  not,
  ◌&&◌,
  ◌==◌,
  ◌+◌,
  length,
  map,
  take,
  Option,
  Some,
  None,
  is_some,
  if◌then◌else◌,
}
use Rattle.std.specs.List.{flat_map, position}
use Rattle.msb_laws.specs.Words.{Name, Pairs}
use Rattle.file_store.specs.Files.{file_at}
use Rattle.file_store.specs.declared.tree.File.{File}
use Rattle.msb_values.specs.declared.key.InstanceKey.{InstanceKey}
use Rattle.result_cache.specs.declared.request.RequestKey.{RequestKey}
use Rattle.task_msbuild.specs.declared.project.Project.{Project}
use Rattle.task_msbuild.specs.declared.parameters.Parameters.{Parameters}
use Rattle.task_msbuild.specs.GlobalProperties.{shared_globals, child_globals}

abbrev pub is_there : List File → Project → Bool
is_there files project = is_some (file_at project.path files)

-- a missing project ends the list where calls are made one after the other, stop at the first
-- failure, and none is passed over
abbrev pub ends_at_missing : Parameters → Bool
ends_at_missing p = p.stop_first && not p.parallel && not p.skip_missing

-- the projects through a place, or all
abbrev pub through : Option ℕ → List Project → List Project
through (Some at) projects = take (at + 1) projects
through None projects = projects

-- the projects through the first that is missing
abbrev pub through_missing : List File → List Project → List Project
through_missing files projects = through
    (position (λ project. not (is_there files project)) projects) projects

-- the projects that are looked up
abbrev pub looked_up : List File → Parameters → List Project
looked_up files p = if ends_at_missing p then through_missing files p.projects else p.projects

-- the targets of each call of a project: all at once, or each by itself; without any the default
-- targets are meant
abbrev pub target_lists : Bool → List Name → List (List Name)
target_lists separately [] = [] ∷ []
target_lists true targets = map (λ target. target ∷ []) targets
target_lists false targets = targets ∷ []

abbrev pub request_of : InstanceKey → List Name → RequestKey
request_of instance targets = record
    { instance = instance; targets = targets; named = not (length targets == 0) }

-- a project with its global properties, by those that all projects get
abbrev pub instance_of : Pairs → Project → InstanceKey
instance_of shared project = record
    { path = project.path; globals = child_globals shared project.item.additional }

-- the calls of a project
abbrev pub calls_of : List File → Pairs → List (List Name) → Project
    → List RequestKey
calls_of files shared lists project = if is_there files project then map
    (request_of (instance_of shared project)) lists else []

-- the calls of all projects, in order
abbrev pub all_calls : List File → Pairs → Parameters → List RequestKey
all_calls files globals p = flat_map
    (calls_of files (shared_globals p.removed p.properties globals)
    (target_lists p.separately p.targets)) (looked_up files p)
