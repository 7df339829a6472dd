-- What a write and a removal make of a tree.
use Rattle.std.specs.Prelude.{
  ◌≡◌,
  ◌≢◌,
  ◌<◌,
  ◌≤◌,
  ◌⊎◌,
  ◌==◌,
  ℕ,
  List,
  ◌∷◌,
  ◌++◌,
  length,
  take,
  drop,
  None,
  IfSome,
  IsSomeAnd,
  Bool,
}
use Rattle.std.specs.List.{filter}
use Rattle.std.specs.declared.cmp.Ordering.{Ordering}
use Rattle.std.specs.declared.cmp.Ordering.TheVariants.{Less, Greater}
use Rattle.std.specs.Ordering.{ordering_index, nat_cmp}
use Rattle.std.specs.Cmp.Lexicographic.{slice_cmp}
use Rattle.msb_laws.specs.Words.{Path, Text}
use Rattle.file_store.specs.Files.{file_at}
use Rattle.file_store.specs.declared.tree.File.{File}

-- the path has just these bytes, and a stamp that is greater than those of all other files
abbrev pub HasNew : Path → Text → List File → Type 0
HasNew path bytes files = IsSomeAnd (file_at path files) (λ f.
    (f.bytes ≡ bytes)
    × ((q : Path) → q ≢ path → IfSome (file_at q files) (λ g. g.stamp < f.stamp)))

-- every other path is as it was
abbrev pub KeepsOthers : Path → List File → List File → Type 0
KeepsOthers path before after = (q : Path) → q ≢ path → file_at q after ≡ file_at q before

-- the write was made
pub record IsWritten (path : Path) (bytes : Text) (before after : List File) : Type 0 where
  pub here : HasNew path bytes after
  pub others : KeepsOthers path before after

-- the write was made or was not
pub record IsOldOrNew (path : Path) (bytes : Text) (before after : List File) : Type 0 where
  pub here : (file_at path after ≡ file_at path before) ⊎ HasNew path bytes after
  pub others : KeepsOthers path before after

-- the removal was made
pub record IsRemoved (path : Path) (before after : List File) : Type 0 where
  pub here : file_at path after ≡ None
  pub others : KeepsOthers path before after

-- the removal was made or was not
pub record IsOldOrGone (path : Path) (before after : List File) : Type 0 where
  pub here : (file_at path after ≡ file_at path before) ⊎ (file_at path after ≡ None)
  pub others : KeepsOthers path before after

-- the file's path stands at this side of another path
abbrev pub is_at_side : Path → Ordering → File → Bool
is_at_side path side f = ordering_index (slice_cmp nat_cmp f.path path) == ordering_index side

-- the files before a path, a new file there, and the files after it
abbrev pub put_in : Path → Text → ℕ → List File → List File
put_in path bytes stamp files = filter (is_at_side path Less) files
    ++ record { path = path; bytes = bytes; stamp = stamp } ∷ filter (is_at_side path Greater) files

-- the files before a path and those after it
abbrev pub taken_out : Path → List File → List File
taken_out path files = filter (is_at_side path Less) files ++ filter (is_at_side path Greater) files

-- the files before place i stand before the path, those from i up to j have it, and those from j on
-- stand after it
pub record IsPlace (path : Path) (files : List File) (i j : ℕ) : Type 0 where
  pub front : take i files ≡ filter (is_at_side path Less) files
  pub back : drop j files ≡ filter (is_at_side path Greater) files
  pub within : j ≤ length files
