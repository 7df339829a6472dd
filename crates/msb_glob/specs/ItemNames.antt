-- Which items entries name, each as an identity or as a pattern. (Item element; CreateItem task;
-- MSBuild items, wildcards to specify items)
use Rattle.std.specs.Prelude.{ℕ, List, Bool, false, ◌||◌, Result, Ok, Err}
use Rattle.std.specs.List.{list_any}
use Rattle.msb_laws.specs.Words.{Text, Path}
use Rattle.msb_paths.specs.Refused.{normal_path}
use Rattle.msb_paths.specs.declared.errors.NormalFault.{NormalFault}
use Rattle.msb_values.specs.Same.{is_same_text}
use Rattle.msb_glob.specs.Match.{fits_path}
use Rattle.msb_glob.specs.Parsed.{Reading, with_slashes}

-- the identities that the entries are, without escapes, and the patterns among the entries
pub record ItemNames : Type 0 where
  pub idents : List Text
  pub patterns : List Reading

-- `\` counts as `/`, and case does not count
abbrev pub is_same_ident : Text → Text → Bool
is_same_ident one other = is_same_text (with_slashes one) (with_slashes other)

-- patterns look at the full path; an identity that cannot be made normal is matched by none
abbrev pub fits : Result Path NormalFault → Reading → Bool
fits (Ok path) pattern = fits_path pattern.parts path
fits (Err fault) pattern = false

-- an item of this identity, without escapes, is named where an entry is its identity, be the entry
-- a pattern or not, or where a pattern matches its path from this folder
abbrev pub is_named : Path → ItemNames → Text → Bool
is_named folder names ident = list_any (is_same_ident ident) names.idents
    || list_any (fits (normal_path folder ident)) names.patterns
