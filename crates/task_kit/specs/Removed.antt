-- Delete: each file that is there is removed, and a path without a file is passed over. (Delete
-- task)
use Rattle.std.specs.Prelude.{
  ◌≡◌,
  Bool,
  not,
  ◌&&◌,
  List,
  [],
  ◌∷◌,
  ◌++◌,
  true,
  fold,
  is_some,
  Result,
  codes,
  if◌then◌else◌,
}
use Rattle.std.specs.HashSet.{HashSet, contains}
use Rattle.std.specs.List.{list_any}
use Rattle.std.specs.Str.{bytes_eq}
use Rattle.msb_laws.specs.Results.{and_then, map_ok, all_ok}
use Rattle.msb_laws.specs.Words.{Path}
use Rattle.msb_values.specs.Acts.{act_path}
use Rattle.msb_values.specs.declared.act.Act.{Act}
use Rattle.msb_values.specs.declared.act.Act.TheVariants.{Remove}
use Rattle.msb_values.specs.declared.item.Item.{Item}
use Rattle.msb_files.specs.Views.{View, content}
use Rattle.task_trait.specs.Params.{check_known, unless, needed_items}
use Rattle.task_trait.specs.declared.failures.Failure.{Failure}
use Rattle.task_trait.specs.declared.tools.Param.{Param}
use Rattle.task_trait.specs.declared.tools.TaskOutput.{TaskOutput}
use Rattle.task_kit.specs.Paths.{path_in}

-- the normal path of an item of Files
abbrev pub path_at : Path → Item → Result Path Failure
path_at dir item = path_in dir (codes "files") item.ident

-- one of the acts is on the path
abbrev pub is_acted : List Act → Path → Bool
is_acted acts path = list_any (λ act. bytes_eq (act_path act) path) acts

-- a file is there if the view has it and it is not removed yet
abbrev pub is_left : View → List Act → Path → Bool
is_left view acts path = is_some (content view path) && not (is_acted acts path)

abbrev pub with_removed : View → List Act → Path → List Act
with_removed view acts path =
    if is_left view acts path then acts ++ Remove path ∷ [] else acts

abbrev pub removed : View → List Path → List Act
removed view paths = fold (with_removed view) [] paths

-- it gives the files that were removed and those that were not there, in order
abbrev pub output_removed : View → List Item → List Path → TaskOutput
output_removed view items paths = record {
  ok = true;
  outputs = record { name = codes "deletedfiles"; items = items } ∷ [];
  acts = removed view paths;
  notes = [];
}

abbrev pub delete : Path → View → List Param → Result TaskOutput Failure
delete dir view params =
    unless (check_known (codes "delete") params)
    (and_then (needed_items (codes "files") params) (λ items.
    map_ok (output_removed view items) (all_ok (path_at dir) items)))

-- a set has just the paths of the acts
abbrev pub HasPaths : {S : Type 0} → List Act → HashSet Path S → Type 0
HasPaths acts known = (path : Path) → contains bytes_eq known path ≡ is_acted acts path
