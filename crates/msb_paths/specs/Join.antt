-- A folder and a file as one path.
use Rattle.std.specs.Prelude.{◌-◌, Bool, ◌||◌, ◌==◌, ◌∷◌, ◌++◌, length, slice_index, if◌then◌else◌}
use Rattle.msb_laws.specs.Words.{Path, Text}
use Rattle.msb_paths.specs.Segments.{is_slash}

-- a folder that the file's name may follow at once: the empty one, or one that ends with `/`
abbrev pub is_open : Path → Bool
is_open folder = length folder == 0 || is_slash (slice_index folder (length folder - 1))

abbrev pub joined : Path → Text → Path
joined folder file = if is_open folder then folder ++ file else folder ++ 47 ∷ file
