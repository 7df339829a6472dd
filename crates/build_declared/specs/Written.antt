-- Files of a tree, and what a run does to files.
use Rattle.std.specs.Prelude.{Bool, List, length, ◌-◌, take, Option, option_map}
use Rattle.std.specs.List.{list_any}
use Rattle.std.specs.Str.{bytes_eq}
use Rattle.msb_laws.specs.Words.{Text, Path}
use Rattle.msb_values.specs.declared.act.Act.{Act}
use Rattle.file_store.specs.Files.{file_at}
use Rattle.file_store.specs.declared.tree.File.{File}

-- the bytes of the files of a tree
abbrev pub bytes_in : List File → Path → Option Text
bytes_in files path = option_map (λ (f : File). f.bytes) (file_at path files)

-- any path
abbrev pub AnyPath : Path → Type 0
AnyPath path = Unit {0}

-- those of some acts that were not done before, the newest first
abbrev pub since : List Act → List Act → List Act
since before acts = take (length acts - length before) acts

abbrev pub is_one_of : Path → List Path → Bool
is_one_of path paths = list_any (bytes_eq path) paths
