-- The files that a build leaves. (MSBuild targets.)
use Rattle.std.specs.Prelude.{◌≡◌, List, [], ◌∷◌, not, filter, reverse}
use Rattle.std.specs.Str.{bytes_eq}
use Rattle.msb_laws.specs.Words.{Path}
use Rattle.msb_values.specs.Acts.{act_path}
use Rattle.msb_values.specs.declared.act.Act.{Act}
use Rattle.file_store.specs.Commits.{bytes_there}
use Rattle.file_store.specs.declared.tree.File.{File}
use Rattle.result_cache.specs.Journal.{Journal}
use Rattle.msb_files.specs.Views.{content, acts_of}

-- acts of which the newest stands first, without those on whose path a later one acted
abbrev pub last_acts : List Act → List Act
last_acts [] = []
last_acts (act ∷ older) = act ∷ filter (λ a. not (bytes_eq (act_path a) (act_path act)))
    (last_acts older)

-- the last act on each path, in the order of the journal
abbrev pub commit_list : Journal → List Act
commit_list journal = reverse (last_acts (acts_of journal))

-- each path has what the journal has for it, and else what it had before
abbrev pub IsFinalTree : List File → Journal → List File → Type 0
IsFinalTree before journal after = (path : Path) →
    bytes_there path after ≡ content (record { files = before; journal = journal }) path
