-- What entries name, as the code looks it up: identities with `/` and folded in a set.
use Rattle.std.specs.Prelude.{
  ℕ,
  List,
  [],
  ◌∷◌,
  Bool,
  false,
  ◌||◌,
  Option,
  Some,
  None,
  Result,
  Ok,
  Err,
}
use Rattle.std.specs.List.{list_any}
use Rattle.std.specs.BTreeMap.{is_at}
use Rattle.std.specs.BTreeSet.{insert_key}
use Rattle.std.specs.Ordering.{nat_cmp}
use Rattle.std.specs.Cmp.Lexicographic.{slice_cmp}
use Rattle.msb_laws.specs.Words.{Text, Path}
use Rattle.msb_paths.specs.Refused.{normal_path}
use Rattle.msb_paths.specs.declared.errors.NormalFault.{NormalFault}
use Rattle.msb_values.specs.Folded.{folded_bytes}
use Rattle.msb_glob.specs.ItemNames.{ItemNames}
use Rattle.msb_glob.specs.Match.{fits_path}
use Rattle.msb_glob.specs.Parsed.{Reading, with_slashes}
use Rattle.msb_glob.specs.declared.item_names.ItemNames as code

abbrev pub folded_ident : Text → Text
folded_ident ident = folded_bytes (with_slashes ident)

abbrev pub seen_names : code.ItemNames → List Text × List Reading
seen_names names = (names.idents.keys, names.patterns)

-- a set with this too
abbrev pub with_ident : List Text × List Reading → Text → List Text × List Reading
with_ident names ident = (insert_key (slice_cmp nat_cmp) names.0 (folded_ident ident), names.1)

-- a set with these too
abbrev pub with_idents : List Text × List Reading → List Text → List Text × List Reading
with_idents names [] = names
with_idents names (ident ∷ idents) = with_idents (with_ident names ident) idents

abbrev pub folded_names : ItemNames → List Text × List Reading
folded_names names = with_idents ([], names.patterns) names.idents

-- the path of an identity, where it can be made normal
abbrev pub path_or_none : Result Path NormalFault → Option Path
path_or_none (Ok path) = Some path
path_or_none (Err fault) = None

abbrev pub path_of : Path → Text → Option Path
path_of folder ident = path_or_none (normal_path folder ident)

abbrev pub fits_any : Option Path → List Reading → Bool
fits_any (Some path) patterns = list_any (λ pattern. fits_path pattern.parts path) patterns
fits_any None patterns = false

abbrev pub has_ident : List Text → Text → Bool
has_ident keys ident = list_any (is_at (slice_cmp nat_cmp (folded_ident ident))) keys

abbrev pub is_named_by : Path → List Text × List Reading → Text → Bool
is_named_by folder names ident = has_ident names.0 ident || fits_any (path_of folder ident) names.1
