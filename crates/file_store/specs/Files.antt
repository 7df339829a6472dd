-- Files by their paths.
use Rattle.std.specs.Prelude.{List, [], ◌∷◌, map, Option, Some, None, if◌then◌else◌, Bool}
use Rattle.std.specs.Str.{bytes_eq}
use Rattle.msb_laws.specs.Words.{Path, Text}
use Rattle.file_store.specs.Paths.{are_rising}
use Rattle.file_store.specs.declared.tree.File.{File}

abbrev pub paths_of : List File → List Path
paths_of = map (λ f. f.path)

-- files in strictly rising byte order of their paths
abbrev pub are_in_order : List File → Bool
are_in_order files = are_rising (paths_of files)

-- the file at a path
abbrev pub file_at : Path → List File → Option File
file_at path [] = None
file_at path (f ∷ fs) = if bytes_eq f.path path then Some f else file_at path fs

-- the bytes of a file, and none where no file is
abbrev pub bytes_or_none : Option File → Text
bytes_or_none None = []
bytes_or_none (Some f) = f.bytes

abbrev pub bytes_at : Path → List File → Text
bytes_at path files = bytes_or_none (file_at path files)
