-- Tasks that are not built in: what a tool is handed, and what is taken from it. (UsingTask
-- element; MSBuild tasks)
use Rattle.std.specs.Prelude.{ℕ, List, Result, Err, codes, if◌then◌else◌}
use Rattle.msb_laws.specs.Results.{map_ok, all_ok}
use Rattle.msb_laws.specs.Words.{Name, Path}
use Rattle.msb_paths.specs.Normal.{is_normal}
use Rattle.msb_values.specs.declared.item.Item.{Item}
use Rattle.msb_values.specs.Acts.{act_path}
use Rattle.msb_values.specs.declared.act.Act.{Act}
use Rattle.msb_files.specs.Views.{View, content}
use Rattle.task_trait.specs.Failures.{failed}
use Rattle.task_trait.specs.Params.{items_of}
use Rattle.task_trait.specs.declared.failures.Failure.{Failure}
use Rattle.task_trait.specs.declared.failures.Failure.TheVariants.{UnknownTask, BadPath}
use Rattle.task_trait.specs.declared.tools.FileIn.{FileIn}
use Rattle.task_trait.specs.declared.tools.Param.{Param}
use Rattle.task_trait.specs.declared.tools.TaskOutput.{TaskOutput}
use Rattle.task_trait.specs.declared.tools.ToolAnswer.{ToolAnswer}
use Rattle.task_trait.specs.declared.tools.ToolAnswer.TheVariants.{Unknown, Made as made_answer}
use Rattle.task_trait.specs.declared.tools.ToolInput.{ToolInput}
use Rattle.task_kit.specs.Progress.{started, with_act, made_by, output_with}
use Rattle.task_kit.specs.Paths.{path_in}
use Rattle.task_kit.specs.declared.progress.TaskProgress.{TaskProgress}

-- a file of the parameter Sources: its normal path, and its content in the view
abbrev pub file_at : Path → View → Item → Result FileIn Failure
file_at dir view item = map_ok (λ path. record { path = path; content = content view path })
    (path_in dir (codes "sources") item.ident)

-- a tool is handed the parameters, and the files of its Sources
abbrev pub foreign_input : Path → View → List Param → Result ToolInput Failure
foreign_input dir view params = map_ok (λ files. record { params = params; files = files })
    (all_ok (file_at dir view) (items_of (codes "sources") params))

-- a tool writes and removes files at normal paths alone
abbrev pub acted_by_tool : TaskProgress → Act → Result TaskProgress Failure
acted_by_tool progress act =
    let path = act_path act in
    if is_normal path then with_act path act progress else Err (BadPath path)

-- what is taken from a tool, in a run that has written this much before
abbrev pub foreign_output : Name → ℕ → ToolAnswer → TaskOutput
foreign_output name written Unknown = failed name UnknownTask
foreign_output name written (made_answer output) =
    output_with name output (made_by acted_by_tool (started written) output.acts)
