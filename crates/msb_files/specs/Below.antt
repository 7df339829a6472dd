-- Files below a folder, as a run sees them.
use Rattle.std.specs.Prelude.{Bool, ◌&&◌, [], ◌∷◌, ◌++◌, nat_eq, is_some}
use Rattle.std.specs.List.{starts_with}
use Rattle.msb_laws.specs.Words.{Path}
use Rattle.msb_files.specs.Views.{View, content}

-- the path lies below the folder, and there is a file at it
abbrev pub has_file_below : View → Path → Path → Bool
has_file_below view folder path =
    starts_with nat_eq path (folder ++ 47 ∷ []) && is_some (content view path)
