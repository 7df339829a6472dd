-- Files as a run sees them: those of a tree, with what runs have written over them and without what
-- they have removed. (MSBuild targets; Incremental builds; Delete task.)
use Rattle.std.specs.Prelude.{
  ℕ,
  Bool,
  List,
  [],
  ◌∷◌,
  map,
  filter,
  Option,
  option_map,
  is_some,
  unwrap_or,
}
use Rattle.std.specs.BTreeSet.{insert_key}
use Rattle.std.specs.Cmp.Lexicographic.{slice_cmp}
use Rattle.std.specs.Ordering.{nat_cmp}
use Rattle.msb_laws.specs.Words.{Path, Text}
use Rattle.msb_values.specs.Acts.{act_path}
use Rattle.msb_values.specs.declared.act.Act.{Act}
use Rattle.file_store.specs.Commits.{bytes_there}
use Rattle.file_store.specs.Files.{paths_of, file_at}
use Rattle.file_store.specs.declared.tree.File.{File}
use Rattle.result_cache.specs.Journal as journals
use Rattle.result_cache.specs.Journal.{Journal, acted, ended}

-- the files of a tree, and the journal of the request that looks at them
pub record View : Type 0 where
  pub files : List File
  pub journal : Journal

-- the bytes of the file at a path: what the last act on it left, else what the tree has
abbrev pub content : View → Path → Option Text
content view path = unwrap_or (journals.content view.journal path) (bytes_there path view.files)

-- a run has acted on the path
abbrev pub written : View → Path → Bool
written view path = is_some (journals.content view.journal path)

-- the stamp of the path in the tree, whether a run has acted on it or not
abbrev pub stamp : View → Path → Option ℕ
stamp view path = option_map (λ f. f.stamp) (file_at path view.files)

-- the acts of runs, the newest first
abbrev pub acts_of : Journal → List Act
acts_of [] = []
acts_of (acted run place act ∷ journal) = act ∷ acts_of journal
acts_of (ended run made ∷ journal) = acts_of journal

-- these paths put among others in byte order, each once
abbrev pub with_paths : List Path → List Path → List Path
with_paths [] others = others
with_paths (path ∷ paths) others = with_paths paths (insert_key (slice_cmp nat_cmp) others path)

-- the paths of the tree and of all acts, in byte order, each once
abbrev pub paths_met : View → List Path
paths_met view = with_paths (paths_of view.files)
    (with_paths (map act_path (acts_of view.journal)) [])

-- the paths of all files that there are, in byte order, each once
abbrev pub paths : View → List Path
paths view = filter (λ path. is_some (content view path)) (paths_met view)
