-- ReadLinesFromFile: the lines of a file. (ReadLinesFromFile task)
use Rattle.std.specs.Prelude.{
  ◌==◌,
  List,
  [],
  ◌∷◌,
  map,
  Option,
  Some,
  None,
  Result,
  Ok,
  Err,
  codes,
  if◌then◌else◌,
}
use Rattle.std.specs.List.{slice_split}
use Rattle.std.specs.Str.{is_utf8}
use Rattle.msb_laws.specs.Results.{and_then}
use Rattle.msb_laws.specs.Words.{Text, Path}
use Rattle.msb_values.specs.Lists.{entries_of}
use Rattle.msb_values.specs.declared.item.Item.{Item}
use Rattle.msb_expand.specs.Functions.{plain_item}
use Rattle.msb_files.specs.Views.{View, content}
use Rattle.task_trait.specs.Params.{check_known, unless, needed_text}
use Rattle.task_trait.specs.declared.failures.Failure.{Failure}
use Rattle.task_trait.specs.declared.failures.Failure.TheVariants.{NotText}
use Rattle.task_trait.specs.declared.tools.Param.{Param}
use Rattle.task_trait.specs.declared.tools.TaskOutput.{TaskOutput}
use Rattle.task_kit.specs.Progress.{succeeded}
use Rattle.task_kit.specs.Paths.{path_in}

-- a text is cut at each LF; a line is trimmed as an entry of a list, and an empty one is none
abbrev pub lines_in : Text → List Item
lines_in text = map plain_item (entries_of (slice_split (λ byte. byte == 10) text))

abbrev pub lines_output : List Item → TaskOutput
lines_output items = succeeded (record { name = codes "lines"; items = items } ∷ [])

-- a file that is missing has no lines, and one that is not UTF-8 fails; the path is told as the
-- task was handed it
abbrev pub lines_read : Text → Option Text → Result TaskOutput Failure
lines_read file None = Ok (lines_output [])
lines_read file (Some bytes) =
    if is_utf8 bytes then Ok (lines_output (lines_in bytes)) else Err (NotText file)

abbrev pub read_lines : Path → View → List Param → Result TaskOutput Failure
read_lines dir view params =
    unless (check_known (codes "readlinesfromfile") params)
    (and_then (needed_text (codes "file") params) (λ file.
    and_then (path_in dir (codes "file") file) (λ path.
    lines_read file (content view path))))
