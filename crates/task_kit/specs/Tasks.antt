-- Task: what a built-in task does, over its name, the folder of its project, its view of files, its
-- parameters, and the bytes that its run has written before. (MSBuild tasks; Task element)
use Rattle.std.specs.Prelude.{ℕ, List, [], ◌∷◌, Option, Some, None, Result, Ok, Err, codes}
use Rattle.msb_laws.specs.Words.{Name, Path}
use Rattle.msb_values.specs.Pairs.{value_at}
use Rattle.msb_files.specs.Views.{View}
use Rattle.task_trait.specs.Failures.{failed}
use Rattle.task_trait.specs.declared.failures.Failure.{Failure}
use Rattle.task_trait.specs.declared.tools.Param.{Param}
use Rattle.task_trait.specs.declared.tools.TaskOutput.{TaskOutput}
use Rattle.task_trait.specs.declared.tools.ToolAnswer.{ToolAnswer}
use Rattle.task_trait.specs.declared.tools.ToolAnswer.TheVariants.{Unknown, Made}
use Rattle.task_kit.specs.Messages as messages
use Rattle.task_kit.specs.Copies.{copy}
use Rattle.task_kit.specs.Lines.{write_lines}
use Rattle.task_kit.specs.Included.{create_item}
use Rattle.task_kit.specs.Removed.{delete}
use Rattle.task_kit.specs.Read.{read_lines}
use Rattle.task_kit.specs.declared.tasks.BuiltIn.{BuiltIn}
use Rattle.task_kit.specs.declared.tasks.BuiltIn.TheVariants.{
  Message,
  Warning,
  Error,
  Copy,
  WriteLinesToFile,
  ReadLinesFromFile,
  Delete,
  CreateItem,
  CreateProperty,
}

-- the tasks by their names; MSBuild is planned elsewhere, and every other name is a tool's
abbrev pub built_in : List (Name × BuiltIn)
built_in =
    (codes "message", Message) ∷
    (codes "warning", Warning) ∷
    (codes "error", Error) ∷
    (codes "copy", Copy) ∷
    (codes "writelinestofile", WriteLinesToFile) ∷
    (codes "readlinesfromfile", ReadLinesFromFile) ∷
    (codes "delete", Delete) ∷
    (codes "createitem", CreateItem) ∷
    (codes "createproperty", CreateProperty) ∷ []

-- a task's checks, of which the first that fails is its failure, and then its work
abbrev pub done : BuiltIn → Path → View → List Param → ℕ → Result TaskOutput Failure
done Message dir view params written = messages.message params
done Warning dir view params written = messages.warning params
done Error dir view params written = messages.error params
done Copy dir view params written = copy dir view params written
done WriteLinesToFile dir view params written = write_lines dir view params written
done ReadLinesFromFile dir view params written = read_lines dir view params
done Delete dir view params written = delete dir view params
done CreateItem dir view params written = create_item dir view params
done CreateProperty dir view params written = messages.create_property params

-- a failed check is an outcome with a note
abbrev pub output_of : Name → Result TaskOutput Failure → TaskOutput
output_of name (Ok output) = output
output_of name (Err failure) = failed name failure

abbrev pub answer_of : Option BuiltIn → Name → Path → View → List Param → ℕ → ToolAnswer
answer_of None name dir view params written = Unknown
answer_of (Some task) name dir view params written = Made
    (output_of name (done task dir view params written))

abbrev pub answer : Name → Path → View → List Param → ℕ → ToolAnswer
answer name dir view params written = answer_of (value_at name built_in) name dir view params
    written
