-- What the function Exists of a condition asks of a view of files. (MSBuild conditions)
use Rattle.std.specs.Prelude.{Bool, ◌||◌, nat_eq, List, [], ◌∷◌, ◌++◌}
use Rattle.std.specs.List.{list_any, starts_with}
use Rattle.std.specs.Str.{bytes_eq}
use Rattle.msb_laws.specs.Words.{Path}

-- one of the files has the path, or lies below it
abbrev pub is_there : List Path → Path → Bool
is_there files path = list_any (λ file. bytes_eq file path
    || starts_with nat_eq file (path ++ 47 ∷ [])) files
