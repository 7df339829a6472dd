-- The places of acts among entries: how many older entries there are.
use Rattle.std.specs.Prelude.{ℕ, Bool, List, [], ◌∷◌, length, Option, Some, None}
use Rattle.std.specs.List.{slice_get}
use Rattle.std.specs.Str.{bytes_eq}
use Rattle.msb_laws.specs.Words.{Path}
use Rattle.msb_values.specs.Acts.{act_path}
use Rattle.result_cache.specs.Journal.{Journal, Entry, acted, ended}

-- the places of all acts, the newest first
abbrev pub places_of : Journal → List ℕ
places_of [] = []
places_of (acted run place act ∷ older) = length older ∷ places_of older
places_of (ended run made ∷ older) = places_of older

-- the path of an act
abbrev pub path_in : Entry → Path
path_in (acted run place act) = act_path act
path_in (ended run made) = []

abbrev pub path_of : Option Entry → Path
path_of None = []
path_of (Some e) = path_in e

-- the path of the act at a place of entries that stand oldest first
abbrev pub path_at : Journal → ℕ → Path
path_at entries at = path_of (slice_get entries at)

-- the act at a place is on this path
abbrev pub is_on : Journal → Path → ℕ → Bool
is_on entries path at = bytes_eq (path_at entries at) path
