-- Whether a call of a store has failed, and of which kind it was.
use Rattle.std.specs.Prelude.{◌≡◌, ◌≤◌, ℕ, Bool, true, false, Result, Ok, Err}
use Rattle.msb_laws.specs.Words.{Path}
use Rattle.msb_laws.specs.Faults.{HasCause}
use Rattle.file_store.specs.declared.store.StoreError.{StoreError}
use Rattle.file_store.specs.declared.store.StoreError.TheVariants.{Failed, Memory}

abbrev pub has_failed : {T : Type 0} → Result T StoreError → Bool
has_failed (Ok x) = false
has_failed (Err Failed) = true
has_failed (Err Memory) = false

-- how often a listing has failed, and how often a read of a path, among which a store may count its
-- other reads
pub record Failures : Type 0 where
  pub listings : ℕ
  pub reads : Path → ℕ

-- the failed listings, and one count for the reads of all paths
abbrev pub counted : ℕ → ℕ → Failures
counted listings reads = record { listings = listings; reads = λ path. reads }

-- a listing that fails is counted as one
pub record CountsListing {T : Type 0} (before now : Failures) (result : Result T StoreError) : Type
    0 where
  pub listing : HasCause Failed before.listings now.listings result
  pub no_read : (path : Path) → now.reads path ≡ before.reads path

-- a read of a path that fails is counted as one
pub record CountsRead {T : Type 0} (path : Path) (before now : Failures)
    (result : Result T StoreError) : Type 0 where
  pub reading : HasCause Failed (before.reads path) (now.reads path) result
  pub later : (other : Path) → before.reads other ≤ now.reads other
  pub no_listing : now.listings ≡ before.listings

-- neither a listing nor a read was counted
pub record CountsNeither (before now : Failures) : Type 0 where
  pub no_read : (path : Path) → now.reads path ≡ before.reads path
  pub no_listing : now.listings ≡ before.listings
