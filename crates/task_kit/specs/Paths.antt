-- The paths that a task is handed, from the folder of its project. (MSBuild tasks)
use Rattle.std.specs.Prelude.{Result, Ok, Err}
use Rattle.msb_laws.specs.Words.{Text, Name, Path}
use Rattle.msb_paths.specs.Refused.{normal_path}
use Rattle.msb_paths.specs.declared.errors.NormalFault.{NormalFault}
use Rattle.task_trait.specs.declared.failures.Failure.{Failure}
use Rattle.task_trait.specs.declared.failures.Failure.TheVariants.{BadParameter}

abbrev pub path_or_bad : Name → Result Path NormalFault → Result Path Failure
path_or_bad name (Ok path) = Ok path
path_or_bad name (Err fault) = Err (BadParameter name)

-- the normal path of a text of the parameter of this name, which is bad if there is none
abbrev pub path_in : Path → Name → Text → Result Path Failure
path_in dir name text = path_or_bad name (normal_path dir text)
