-- What a load answers.
use Rattle.std.specs.Prelude.{
  ◌≡◌,
  ◌≤◌,
  true,
  List,
  [],
  ◌∷◌,
  length,
  Contains,
  Option,
  Some,
  None,
  IfSome,
  IsSome,
}
use Rattle.msb_laws.specs.Words.{Path}
use Rattle.msb_laws.specs.Faults.{Rose}
use Rattle.file_store.specs.Seen.{StoreSeen}
use Rattle.file_store.specs.Files.{file_at}
use Rattle.file_store.specs.Entries.{entries_of, paths_in, are_listed_in_order}
use Rattle.file_store.specs.Limits.{limit_fault}
use Rattle.file_store.specs.declared.tree.File.{File}
use Rattle.file_store.specs.declared.store.Entry.{Entry}
use Rattle.file_store.specs.declared.loading.LoadFault.{LoadFault}
use Rattle.file_store.specs.declared.loading.LoadFault.TheVariants.{
  Listing,
  Reading,
  Files,
  Bytes,
  Large,
  BadPath,
  Memory,
}

-- P holds of the listing that was got: that of the told files, or where none are told some listing
-- in byte order
abbrev pub OfListing : Option (List File) → (List Entry → Type 0) → Type 0
OfListing None P = (listing : List Entry) × (are_listed_in_order listing ≡ true) × P listing
OfListing (Some files) P = P (entries_of files)

-- the listing is within the limits, and these are the paths of its files
pub record IsLoaded (paths : List Path) (listing : List Entry) : Type 0 where
  pub within : limit_fault listing ≡ None
  pub paths_are : paths ≡ paths_in listing

-- files that were read by the entries of a listing: each has the path of its entry, and at most its
-- size
abbrev pub AreAsListed : List Entry → List File → Type 0
AreAsListed [] [] = Unit {0}
AreAsListed [] (f ∷ fs) = ⊥
AreAsListed (e ∷ es) [] = ⊥
AreAsListed (e ∷ es) (f ∷ fs) = (f.path ≡ e.path) × (length f.bytes ≤ e.size) × AreAsListed es fs

-- the listing is within the limits, and has a file at the path
pub record IsLoading (path : Path) (listing : List Entry) : Type 0 where
  pub within : limit_fault listing ≡ None
  pub listed : Contains (paths_in listing) path

-- the listing passes a limit, and this is its fault
abbrev pub IsPast : LoadFault → List Entry → Type 0
IsPast fault listing = limit_fault listing ≡ Some fault

-- Why a load failed: the store's count has risen, in its listing or in the read of a file of a
-- listing within the limits; or the listing passes a limit. Want of memory has no cause.
abbrev pub IsCaused : StoreSeen → StoreSeen → LoadFault → Type 0
IsCaused before now Listing = Rose before.fault_count now.fault_count
IsCaused before now (Reading path) = Rose before.fault_count now.fault_count
    × IfSome before.tree (λ files. IsSome (file_at path files))
    × OfListing before.tree (IsLoading path)
IsCaused before now (Files number) = OfListing before.tree (IsPast (Files number))
IsCaused before now (Bytes total) = OfListing before.tree (IsPast (Bytes total))
IsCaused before now (Large path) = OfListing before.tree (IsPast (Large path))
IsCaused before now (BadPath path) = OfListing before.tree (IsPast (BadPath path))
IsCaused before now Memory = Unit {0}

-- What a load tells as the cause has failed: a listing, or the read of the path.
abbrev pub IsOfKind : StoreSeen → StoreSeen → LoadFault → Type 0
IsOfKind before now Listing = Rose before.failures.listings now.failures.listings
IsOfKind before now (Reading path) = Rose (before.failures.reads path) (now.failures.reads path)
IsOfKind before now (Files number) = Unit {0}
IsOfKind before now (Bytes total) = Unit {0}
IsOfKind before now (Large path) = Unit {0}
IsOfKind before now (BadPath path) = Unit {0}
IsOfKind before now Memory = Unit {0}

-- the store's count has risen in the read of a path with P
abbrev pub IsReadCaused : StoreSeen → StoreSeen → (Path → Type 0) → LoadFault → Type 0
IsReadCaused before now P Listing = ⊥
IsReadCaused before now P (Reading path) = Rose before.fault_count now.fault_count × P path
IsReadCaused before now P (Files number) = ⊥
IsReadCaused before now P (Bytes total) = ⊥
IsReadCaused before now P (Large path) = ⊥
IsReadCaused before now P (BadPath path) = ⊥
IsReadCaused before now P Memory = Unit {0}
