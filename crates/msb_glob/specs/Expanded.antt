-- The matches of a pattern among paths. (MSBuild items, wildcards to specify items)
use Rattle.std.specs.Prelude.{
  ◌≡◌,
  nat_eq,
  Bool,
  List,
  [],
  ◌∷◌,
  ◌++◌,
  map,
  filter,
  length,
  drop,
  IsPermutation,
  IsSorted,
  if◌then◌else◌,
}
use Rattle.std.specs.List.{slice_split, flat_map, starts_with}
use Rattle.std.specs.Ordering.{nat_cmp}
use Rattle.std.specs.Cmp.Lexicographic.{slice_cmp}
use Rattle.msb_laws.specs.Words.{Text, Path}
use Rattle.msb_paths.specs.Segments.{is_slash}
use Rattle.msb_values.specs.Escapes.{escaped}
use Rattle.msb_glob.specs.Match.{fits_path, segment_token}
use Rattle.msb_glob.specs.Parsed.{Reading}
use Rattle.msb_glob.specs.Tokens.{first_gap}
use Rattle.msb_glob.specs.declared.expansion.Match.{Match}
use Rattle.msb_glob.specs.declared.parts.Part.{Part}

abbrev pub is_match : Reading → Path → Bool
is_match pattern path = fits_path pattern.parts path

-- the pattern's fixed part, and then the rest of a path below the folder that the fixed part leads
-- to; any other path from the root
abbrev pub ident_of : Reading → Path → Text
ident_of pattern path =
    if starts_with nat_eq path pattern.folder then pattern.fixed
    ++ escaped (drop (length pattern.folder) path)
    else 47 ∷ escaped path

-- the folders that the first `**` stands for, each with `/`
abbrev pub folder_text : Text → Text
folder_text folder = escaped folder ++ 47 ∷ []

abbrev pub recursive_dir : List Part → Path → Text
recursive_dir parts path = flat_map folder_text
    (first_gap (map segment_token parts) (slice_split is_slash path))

abbrev pub match_of : Reading → Path → Match
match_of pattern path = record
    { ident = ident_of pattern path; recursive = recursive_dir pattern.parts path }

-- the matching paths in byte order, each with its identity and its RecursiveDir
pub record Expands (pattern : Reading) (paths : List Path) (matches : List Match) : Type 0 where
  pub found : List Path
  pub all_matching : IsPermutation (filter (is_match pattern) paths) found
  pub in_order : IsSorted (slice_cmp nat_cmp) found
  pub matches_are : matches ≡ map (match_of pattern) found
