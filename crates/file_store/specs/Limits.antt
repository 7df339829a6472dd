-- How many files a listing may have, how large they may be, and how their paths are written. (This
-- engine's own limits.)
use Rattle.std.specs.Prelude.{
  ◌≡◌,
  ◌*◌,
  ◌^◌,
  ℕ,
  nat_lt,
  List,
  length,
  sum_by,
  Option,
  Some,
  None,
  Result,
  Ok,
  Err,
  slice_get,
  if◌then◌else◌,
}
use Rattle.std.specs.List.{filter_map}
use Rattle.msb_paths.specs.Normal.{is_normal}
use Rattle.file_store.specs.declared.store.Entry.{Entry}
use Rattle.file_store.specs.declared.loading.LoadFault.{LoadFault}
use Rattle.file_store.specs.declared.loading.LoadFault.TheVariants.{
  Listing,
  Reading,
  Files,
  Bytes,
  Large,
  BadPath,
  Memory,
}

-- the files of a listing
abbrev pub most_files : ℕ
most_files = 20000

-- the bytes of all files together: 256 MiB
abbrev pub most_bytes : ℕ
most_bytes = 256 * 2 ^ 20

-- the bytes of one file: 16 MiB
abbrev pub most_file_bytes : ℕ
most_file_bytes = 16 * 2 ^ 20

-- the bytes of all files together, as the listing has them
abbrev pub total_size : List Entry → ℕ
total_size = sum_by (λ e. e.size)

-- the fault of an entry: its path is not normal, or else its file is too large
abbrev pub entry_fault : Entry → Option LoadFault
entry_fault e = if is_normal e.path then
    (if nat_lt most_file_bytes e.size then Some (Large e.path) else None) else Some (BadPath e.path)

-- the first of the faults that entries have
abbrev pub first_fault : List Entry → Option LoadFault
first_fault entries = slice_get (filter_map entry_fault entries) 0

-- the fault of a listing: it has too many files, or else too many bytes, or else an entry has a
-- fault
abbrev pub limit_fault : List Entry → Option LoadFault
limit_fault entries =
    if nat_lt most_files (length entries) then Some (Files (length entries)) else
    (if nat_lt most_bytes (total_size entries) then Some (Bytes (total_size entries)) else
    first_fault entries)

-- a check answers the fault, if there is one, or want of memory
abbrev pub Tells : Option LoadFault → Result (Unit {0}) LoadFault → Type 0
Tells fault (Ok done) = fault ≡ None
Tells fault (Err Listing) = ⊥
Tells fault (Err (Reading path)) = ⊥
Tells fault (Err (Files number)) = fault ≡ Some (Files number)
Tells fault (Err (Bytes total)) = fault ≡ Some (Bytes total)
Tells fault (Err (Large path)) = fault ≡ Some (Large path)
Tells fault (Err (BadPath path)) = fault ≡ Some (BadPath path)
Tells fault (Err Memory) = Unit {0}
