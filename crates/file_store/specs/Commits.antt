-- A list of acts, done in order. (MSBuild targets; Delete task.)
use Rattle.std.specs.Prelude.{
  ◌≡◌,
  ℕ,
  List,
  [],
  ◌∷◌,
  take,
  slice_get,
  Option,
  Some,
  None,
  option_map,
  IsSomeAnd,
  MatchOption,
  if◌then◌else◌,
}
use Rattle.std.specs.Option.{option_or}
use Rattle.std.specs.Str.{bytes_eq}
use Rattle.msb_laws.specs.Words.{Path, Text}
use Rattle.msb_laws.specs.Faults.{Rose}
use Rattle.msb_values.specs.Acts.{act_path, act_bytes}
use Rattle.msb_values.specs.declared.act.Act.{Act}
use Rattle.msb_values.specs.declared.act.Act.TheVariants.{Write, Remove}
use Rattle.file_store.specs.Files.{file_at}
use Rattle.file_store.specs.Seen.{StoreSeen}
use Rattle.file_store.specs.Writes.{IsWritten, IsOldOrNew, IsRemoved, IsOldOrGone}
use Rattle.file_store.specs.declared.tree.File.{File}
use Rattle.file_store.specs.declared.committing.CommitFault.{CommitFault}
use Rattle.file_store.specs.declared.committing.CommitFault.TheVariants.{Writing, Memory}

-- the act was done
abbrev pub IsDone : Act → List File → List File → Type 0
IsDone (Write put) before after = IsWritten put.path put.bytes before after
IsDone (Remove path) before after = IsRemoved path before after

-- the act was done or was not
abbrev pub MayBeDone : Act → List File → List File → Type 0
MayBeDone (Write put) before after = IsOldOrNew put.path put.bytes before after
MayBeDone (Remove path) before after = IsOldOrGone path before after

-- each was done, one after the other
abbrev pub AreDone : List Act → List File → List File → Type 0
AreDone [] before after = after ≡ before
AreDone (act ∷ acts) before after = (between : List File) × IsDone act before between
    × AreDone acts between after

-- what the last act of the list on a path leaves there, which is nothing where it removes the file
abbrev pub last_bytes : Path → List Act → Option (Option Text)
last_bytes path [] = None
last_bytes path (act ∷ acts) = option_or (last_bytes path acts)
    (if bytes_eq (act_path act) path then Some (act_bytes act) else None)

-- the bytes of the file at a path, if it is there
abbrev pub bytes_there : Path → List File → Option Text
bytes_there path files = option_map (λ f. f.bytes) (file_at path files)

-- each path of the list has what the last act on it leaves there, and every other path is as it was
abbrev pub HasContents : List Act → List File → List File → Type 0
HasContents list before after = (path : Path) → MatchOption (last_bytes path list)
    (file_at path after ≡ file_at path before) (λ left. bytes_there path after ≡ left)

-- those before a place were done, and the one there was or was not
pub record AreDoneTo (place : ℕ) (list : List Act) (before after : List File) : Type 0 where
  pub between : List File
  pub first : AreDone (take place list) before between
  pub next : IsSomeAnd (slice_get list place) (λ act. MayBeDone act between after)

-- the place at which a commit stopped
abbrev pub place_of : CommitFault → ℕ
place_of (Writing place) = place
place_of (Memory place) = place

-- the store's count has risen; want of memory has no cause
abbrev pub IsCommitCaused : StoreSeen → StoreSeen → CommitFault → Type 0
IsCommitCaused before now (Writing place) = Rose before.fault_count now.fault_count
IsCommitCaused before now (Memory place) = Unit {0}
