-- The indices of some entries: the places of their acts by path, and their marks.
use Rattle.std.specs.Prelude.{◌≡◌, ℕ, Bool, List, [], ◌∷◌, Option, Some, None, reverse}
use Rattle.std.specs.Ordering.{nat_cmp}
use Rattle.std.specs.Cmp.Lexicographic.{slice_cmp}
use Rattle.std.specs.HashSet.{HashSet, contains}
use Rattle.std.specs.List.{find}
use Rattle.std.specs.List.Sorted.{IsSortedByKey, IsPermutation}
use Rattle.std.specs.Str.{bytes_eq}
use Rattle.msb_laws.specs.Words.{Path}
use Rattle.msb_values.specs.Acts.{act_path}
use Rattle.msb_values.specs.declared.act.Act.{Act}
use Rattle.result_cache.specs.Journal.{Journal, Entry, Mark, has, same_mark}
use Rattle.msb_files.specs.Places.{places_of, path_at, is_on}
use Rattle.msb_files.specs.Views.{acts_of}

-- the act is on this path
abbrev pub has_path : Path → Act → Bool
has_path path act = bytes_eq (act_path act) path

-- the newest act on a path
abbrev pub last_act : Journal → Path → Option Act
last_act entries path = find (has_path path) (acts_of entries)

-- the act of an entry, if there is one that is on this path
abbrev pub act_on : Option Entry → Path → Option Act
act_on None path = None
act_on (Some e) path = last_act (e ∷ []) path

-- places put in the byte order of their paths, where the first one on each path stays the first
pub record IsOrdered (entries : Journal) (before after : List ℕ) : Type 0 where
  pub all : IsPermutation before after
  pub sorted : IsSortedByKey (path_at entries) (slice_cmp nat_cmp) after
  pub first : (path : Path) → find (is_on entries path) after ≡ find (is_on entries path) before

-- the places of the acts of entries that stand oldest first: in the byte order of the paths, and
-- the newest on a path ahead of the others on it
abbrev pub IsByPath : Journal → List ℕ → Type 0
IsByPath entries places = IsOrdered entries (places_of (reverse entries)) places

-- the marks of the entries
abbrev pub HasMarks : {S : Type 0} → Journal → HashSet Mark S → Type 0
HasMarks entries index = (m : Mark) → contains same_mark index m ≡ has m entries

-- the indices of entries that stand oldest first
pub record IsIndexed {S : Type 0} (entries : Journal) (by_path : List ℕ) (index : HashSet Mark S)
    : Type 0 where
  pub paths : IsByPath entries by_path
  pub marks : HasMarks (reverse entries) index
