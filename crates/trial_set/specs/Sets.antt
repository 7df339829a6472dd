-- Sets of projects that call each other, made from a seed. (This engine's own generator)
use Rattle.std.specs.Prelude.{ℕ, zero, suc, ◌+◌, List, [], ◌∷◌, map, codes}
use Rattle.msb_laws.specs.Words.{Text, Path}
use Rattle.msb_values.specs.Pairs.{all_put}
use Rattle.file_store.specs.declared.tree.File.{File}
use Rattle.trial_set.specs.Draws.{calls_of}
use Rattle.trial_set.specs.Projects.{file_of, project_text, root_text}

-- so many projects from project i on, with their files' texts, from a state of the draws
abbrev pub projects_from : ℕ → ℕ → ℕ → List (Path × Text)
projects_from zero i state = []
projects_from (suc count) i state =
    let calls = calls_of i state in
    (file_of i, project_text i calls.numbers) ∷ projects_from count (i + 1) calls.state

-- numbers one after the other from i on
abbrev pub numbers_from : ℕ → ℕ → List ℕ
numbers_from zero i = []
numbers_from (suc count) i = i ∷ numbers_from count (i + 1)

-- the project that calls all, and the others
abbrev pub set_of : ℕ → ℕ → List (Path × Text)
set_of seed size = (codes "all.proj", root_text (numbers_from size 1)) ∷ projects_from size 1 seed

-- a file, at the one stamp
abbrev pub file_at_stamp : Path × Text → File
file_at_stamp p = record { path = p.0; bytes = p.1; stamp = 1 }

-- as files in byte order of their paths
abbrev pub files_of : ℕ → ℕ → List File
files_of seed size = map file_at_stamp (all_put [] (set_of seed size))
