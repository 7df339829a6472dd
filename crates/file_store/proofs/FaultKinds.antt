-- What a failed load tells is what failed.
use Rattle.std.proofs.Common.{◌≡◌, ℕ, ◌+◌, ◌≤◌, List, min, Result, Ok, Err, IfErr, arith}
use Rattle.msb_laws.specs.Words.{Path}
use Rattle.msb_laws.specs.Faults.{HasCause}
use Rattle.file_store.specs.Failed.{counted, CountsListing, CountsRead, CountsNeither}
use Rattle.file_store.specs.Seen.{StoreSeen}
use Rattle.file_store.specs.Loads.{IsOfKind, IsReadCaused}
use Rattle.file_store.specs.declared.store.StoreError.{StoreError}
use Rattle.file_store.specs.declared.store.StoreError.TheVariants.{Failed}
use Rattle.file_store.specs.declared.loading.LoadFault.{LoadFault}
use Rattle.file_store.specs.declared.loading.LoadFault.TheVariants.{
  Listing,
  Reading,
  Files,
  Bytes,
  Large,
  BadPath,
  Memory,
}

rose_since : (before mid now most : ℕ) → before ≤ mid → min (mid + 1) most ≤ now
    → min (before + 1) most ≤ now
rose_since before mid now most later rose = omega arith

-- a failed read since a later time is one since an earlier
pub read_kind : (P : Path → Type 0) (before mid now : StoreSeen) (fault : LoadFault)
    → ((path : Path) → before.failures.reads path ≤ mid.failures.reads path)
    → IsReadCaused mid now P fault → IsOfKind mid now fault → IsOfKind before now fault
read_kind P before mid now Listing later caused kind = absurd caused
read_kind P before mid now (Reading path) later caused kind = rose_since
    (before.failures.reads path) (mid.failures.reads path) (now.failures.reads path) _ (later path)
    kind
read_kind P before mid now (Files number) later caused kind = tt
read_kind P before mid now (Bytes total) later caused kind = tt
read_kind P before mid now (Large path) later caused kind = tt
read_kind P before mid now (BadPath path) later caused kind = tt
read_kind P before mid now Memory later caused kind = tt

pub load_kind : {T : Type 0} (P : Path → Type 0) (before mid now : StoreSeen)
    (result : Result T LoadFault)
    → ((path : Path) → mid.failures.reads path ≡ before.failures.reads path)
    → IfErr result (IsReadCaused mid now P) → IfErr result (IsOfKind mid now)
    → IfErr result (IsOfKind before now)
load_kind P before mid now (Ok value) same caused kind = tt
load_kind P before mid now (Err fault) same caused kind = read_kind P before mid now fault
    (λ path. omega (arith, same path)) caused kind

-- the kinds that a store counts, all its reads together
pub listing_kind : {T : Type 0} (l m r s : ℕ) (result : Result T StoreError)
    → HasCause Failed l m result → s ≡ r → CountsListing (counted l r) (counted m s) result
listing_kind l m r s result cause same = record { listing = cause; no_read = λ path. same }

pub read_of_any : {T : Type 0} (path : List ℕ) (l m r s : ℕ) (result : Result T StoreError)
    → HasCause Failed r s result → m ≡ l → CountsRead path (counted l r) (counted m s) result
read_of_any path l m r s result cause same = record
    { reading = cause; later = λ other. cause.later; no_listing = same }

pub neither_kind : (l m r s : ℕ) → s ≡ r → m ≡ l → CountsNeither (counted l r) (counted m s)
neither_kind l m r s reads listings = record { no_read = λ path. reads; no_listing = listings }
