-- Why a task fails, and what its note says. (MSBuild tasks; Copy, WriteLinesToFile,
-- ReadLinesFromFile, CreateItem, Error and MSBuild task)
use Rattle.std.specs.Prelude.{ℕ, List, [], ◌∷◌, ◌++◌, false, codes}
use Rattle.std.specs.Fmt.{decimal}
use Rattle.msb_laws.specs.Words.{Text, Name}
use Rattle.msb_values.specs.declared.note.Note.TheVariants.{Fail}
use Rattle.task_trait.specs.declared.failures.Failure.{Failure}
use Rattle.task_trait.specs.declared.failures.Failure.TheVariants.{
  MissingSource,
  Counts,
  Destinations,
  MissingParameter,
  Raised,
  TooLarge,
  UnknownParameter,
  BadParameter,
  UnknownTask,
  BadPath,
  NotText,
  NoProject,
  Memory,
}
use Rattle.task_trait.specs.declared.tools.TaskOutput.{TaskOutput}

-- what is behind the task's name
abbrev pub detail_of : Failure → Text
detail_of (MissingSource path) = codes "missing " ++ path
detail_of (Counts sources destinations) = decimal sources ++ codes " sources, "
    ++ decimal destinations ++ codes " destinations"
detail_of Destinations = codes "destinations"
detail_of (MissingParameter name) = codes "missing " ++ name
detail_of (Raised text) = text
detail_of (TooLarge path) = codes "too large " ++ path
detail_of (UnknownParameter name) = codes "unknown " ++ name
detail_of (BadParameter name) = codes "bad " ++ name
detail_of UnknownTask = codes "unknown task"
detail_of (BadPath path) = codes "bad path " ++ path
detail_of (NotText path) = codes "not text " ++ path
detail_of (NoProject path) = codes "no project " ++ path
detail_of Memory = codes "memory"

-- the note of a failure of the task of this name; an error that a project raises is its own text
abbrev pub failure_text : Name → Failure → Text
failure_text task (Raised text) = text
failure_text task failure = task ++ codes ": " ++ detail_of failure

-- a task that fails a check does nothing but say so
abbrev pub failed : Name → Failure → TaskOutput
failed task failure = record
    { ok = false; outputs = []; acts = []; notes = Fail (failure_text task failure) ∷ [] }
