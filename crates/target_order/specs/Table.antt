-- The table of a project's targets, from its rows.
use Rattle.std.specs.Prelude.{
  ◌≡◌,
  ◌↔◌,
  ℕ,
  ◌<◌,
  ◌≤◌,
  ◌++◌,
  Bool,
  true,
  List,
  [],
  ◌∷◌,
  length,
  map,
  slice_index_or,
  Some,
  if◌then◌else◌,
}
use Rattle.std.specs.List.{list_any}
use Rattle.std.specs.Str.{bytes_eq}
use Rattle.msb_laws.specs.Words.{Name}
use Rattle.target_order.specs.declared.row.TargetRow.{TargetRow}
use Rattle.target_order.specs.declared.hooks.Side.{Side}
use Rattle.target_order.specs.declared.hooks.Side.TheVariants.{Before, After}
use Rattle.target_order.specs.Visit.{naming}
use Rattle.target_order.specs.Progress.{number_of}

abbrev pub side_of : Side → TargetRow → List Name
side_of Before row = row.before
side_of After row = row.after

abbrev pub names_in : List TargetRow → List Name
names_in rows = map (λ (r : TargetRow). r.name) rows

-- names that are all different
abbrev pub AreDistinct : List Name → Type 0
AreDistinct names = (k : ℕ) → k < length names
    → number_of names (slice_index_or names k []) ≡ Some k

abbrev pub is_among : List Name → Name → Bool
is_among names t = list_any (λ n. bytes_eq n t) names

-- of each of these names, the rows that name it on this side
pub record AreHooks (side : Side) (rows : List TargetRow) (names : List Name)
    (lists : List (List Name)) : Type 0 where
  pub len : length lists ≡ length names
  pub each : (k : ℕ) → k < length names → slice_index_or lists k []
      ≡ naming (side_of side) rows (slice_index_or names k [])

-- where this row's names have been looked through: it stands in the list of each of them, and its
-- turn is noted there
pub record AreHooked (turn : ℕ) (row : Name) (seen names : List Name)
    (before lists : List (List Name)) (turns : List ℕ) : Type 0 where
  pub len : length lists ≡ length names
  pub turns_len : length turns ≡ length names
  pub each : (k : ℕ) → k < length names → slice_index_or lists k []
      ≡ slice_index_or before k []
      ++ (if is_among seen (slice_index_or names k []) then row ∷ [] else [])
  pub noted : (k : ℕ) → k < length names → (slice_index_or turns k 0 ≡ turn)
      ↔ (is_among seen (slice_index_or names k []) ≡ true)
  pub past : (k : ℕ) → k < length names → slice_index_or turns k 0 ≤ turn
