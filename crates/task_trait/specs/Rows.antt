-- The built-in tasks, with the names of their parameters. (MSBuild task reference)
use Rattle.std.specs.Prelude.{
  ℕ,
  List,
  [],
  ◌∷◌,
  map,
  Bool,
  true,
  false,
  ◌||◌,
  Option,
  Some,
  None,
  codes,
}
use Rattle.std.specs.List.{list_any}
use Rattle.std.specs.Str.{bytes_eq}
use Rattle.msb_laws.specs.Words.{Name}
use Rattle.msb_values.specs.Pairs.{value_at}
use Rattle.task_trait.specs.declared.rows.Row.{Row}

-- the parameters of a task that are lists of items, and those that are texts, in lower case
pub record TaskRow : Type 0 where
  pub lists : List Name
  pub texts : List Name

abbrev pub row : (lists texts : List Name) → TaskRow
row lists texts = record { lists = lists; texts = texts }

-- the built-in tasks; every other name is a tool's
abbrev pub task_rows : List (Name × TaskRow)
task_rows = (
  codes "copy",
  row (codes "destinationfiles" ∷ codes "sourcefiles" ∷ [])
      (codes "destinationfolder" ∷ codes "skipunchangedfiles" ∷ []),
) ∷ (
  codes "createitem",
  row (codes "additionalmetadata" ∷ codes "exclude" ∷ codes "include" ∷ []) [],
) ∷
    (codes "createproperty", row (codes "value" ∷ []) []) ∷
    (codes "delete", row (codes "files" ∷ []) []) ∷
    (codes "error", row [] (codes "text" ∷ [])) ∷
    (codes "message", row [] (codes "importance" ∷ codes "text" ∷ [])) ∷ (
      codes "msbuild",
      row (codes "projects" ∷ codes "properties" ∷ codes "removeproperties" ∷ codes "targets" ∷ [])
          (codes "buildinparallel" ∷ codes "runeachtargetseparately"
          ∷ codes "skipnonexistentprojects"
          ∷ codes "stoponfirstfailure" ∷ []),
    ) ∷
    (codes "readlinesfromfile", row [] (codes "file" ∷ [])) ∷
    (codes "warning", row [] (codes "text" ∷ [])) ∷ (
      codes "writelinestofile",
      row (codes "lines" ∷ []) (codes "file" ∷ codes "overwrite" ∷ []),
    ) ∷ []

abbrev pub seen_row : Row → TaskRow
seen_row r = row (map (λ name. name.now) r.lists.now) (map (λ name. name.now) r.texts.now)

abbrev pub is_one_of : Name → List Name → Bool
is_one_of name names = list_any (bytes_eq name) names

abbrev pub has_parameter : Name → TaskRow → Bool
has_parameter name r = is_one_of name r.lists || is_one_of name r.texts

-- every parameter of a tool is a list
abbrev pub takes_list_by : Option TaskRow → Name → Bool
takes_list_by (Some r) name = is_one_of name r.lists
takes_list_by None name = true

abbrev pub takes_list : (task name : Name) → Bool
takes_list task name = takes_list_by (value_at task task_rows) name

-- a task without a row has no parameter
abbrev pub is_known_by : Option TaskRow → Name → Bool
is_known_by (Some r) name = has_parameter name r
is_known_by None name = false

abbrev pub is_known : (task name : Name) → Bool
is_known task name = is_known_by (value_at task task_rows) name
