-- What a listing says of files.
use Rattle.std.specs.Prelude.{List, map, length, Bool}
use Rattle.msb_laws.specs.Words.{Path}
use Rattle.file_store.specs.Paths.{are_rising}
use Rattle.file_store.specs.declared.tree.File.{File}
use Rattle.file_store.specs.declared.store.Entry.{Entry}

abbrev pub entry_of : File → Entry
entry_of f = record { path = f.path; size = length f.bytes; stamp = f.stamp }

abbrev pub entries_of : List File → List Entry
entries_of = map entry_of

abbrev pub paths_in : List Entry → List Path
paths_in = map (λ e. e.path)

-- entries in strictly rising byte order of their paths
abbrev pub are_listed_in_order : List Entry → Bool
are_listed_in_order entries = are_rising (paths_in entries)
