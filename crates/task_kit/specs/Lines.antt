-- WriteLinesToFile: lines behind what a file has, or instead of it. (WriteLinesToFile task)
use Rattle.std.specs.Prelude.{
  ℕ,
  Bool,
  true,
  false,
  ◌&&◌,
  not,
  ◌==◌,
  List,
  [],
  ◌∷◌,
  ◌++◌,
  length,
  Option,
  Result,
  Ok,
  codes,
  unwrap_or,
  if◌then◌else◌,
}
use Rattle.std.specs.List.{flat_map}
use Rattle.msb_laws.specs.Results.{and_then, map_ok}
use Rattle.msb_laws.specs.Words.{Text, Path}
use Rattle.msb_values.specs.declared.item.Item.{Item}
use Rattle.msb_files.specs.Views.{View, content}
use Rattle.task_trait.specs.Params.{items_of, check_known, unless, needed_text, truth_at}
use Rattle.task_trait.specs.declared.failures.Failure.{Failure}
use Rattle.task_trait.specs.declared.tools.Param.{Param}
use Rattle.task_trait.specs.declared.tools.TaskOutput.{TaskOutput}
use Rattle.task_kit.specs.Progress.{started, with_file, kept_by, succeeded, output_with}
use Rattle.task_kit.specs.Paths.{path_in}
use Rattle.task_kit.specs.declared.progress.TaskProgress.{TaskProgress}

-- each line and LF
abbrev pub lines_of : List Item → Text
lines_of lines = flat_map (λ line. line.ident ++ 10 ∷ []) lines

-- what the file has then: its present text, which an overwritten one loses, and the lines
abbrev pub kept_text : Bool → Option Text → Text
kept_text true present = []
kept_text false present = unwrap_or present []

abbrev pub text_after : Bool → Option Text → List Item → Text
text_after overwrite present lines = kept_text overwrite present ++ lines_of lines

-- without lines there is nothing to add, and an overwritten file is empty
abbrev pub written_lines : View → Text → Path → Bool → List Item → TaskProgress
    → Result TaskProgress Failure
written_lines view file path overwrite lines progress =
    if not overwrite && length lines == 0 then Ok progress
    else with_file file
    (record { path = path; bytes = text_after overwrite (content view path) lines }) progress

abbrev pub output_written : View → Text → Path → Bool → List Item → ℕ → TaskOutput
output_written view file path overwrite lines written =
    output_with (codes "writelinestofile") (succeeded [])
    (kept_by (started written) (written_lines view file path overwrite lines (started written)))

abbrev pub write_lines : Path → View → List Param → ℕ → Result TaskOutput Failure
write_lines dir view params written =
    unless (check_known (codes "writelinestofile") params)
    (and_then (needed_text (codes "file") params) (λ file.
    and_then (path_in dir (codes "file") file) (λ path.
    map_ok
    (λ overwrite. output_written view file path overwrite (items_of (codes "lines") params)
    written)
    (truth_at (codes "overwrite") params))))
