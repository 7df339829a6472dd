-- Files that are read back from a store by its listing.
use Rattle.std.proofs.Common.{
  ◌≡◌,
  ℕ,
  zero,
  suc,
  ◌+◌,
  ◌<◌,
  ◌≤◌,
  List,
  [],
  ◌∷◌,
  ◌++◌,
  length,
  map,
  take,
  get_or,
  min,
  Bool,
  true,
  false,
  cond,
  Option,
  Some,
  None,
  IfSome,
  IsSome,
  Result,
  Ok,
  Err,
  IfErr,
  Contains,
  refl,
  sym,
  ap,
  ◌∙◌,
  subst,
  arith,
}
use Rattle.std.specs.Str.{bytes_eq}
use Rattle.std.proofs.lemmas.Grind.{common_steps}
use Rattle.std.proofs.lemmas.List.{get_or-map, length-map, take_more}
use Rattle.std.proofs.lemmas.Slice.Eq.{bytes_eq-Decides}
use Rattle.file_store.specs.Files.{paths_of, are_in_order, file_at, bytes_at, bytes_or_none}
use Rattle.file_store.specs.Entries.{entry_of, entries_of, paths_in, are_listed_in_order}
use Rattle.file_store.specs.Limits.{limit_fault}
use Rattle.file_store.specs.Seen.{StoreSeen}
use Rattle.file_store.specs.Loads.{OfListing, IsLoading, IsCaused, IsReadCaused}
use Rattle.file_store.specs.declared.tree.File.{File}
use Rattle.file_store.specs.declared.tree.Tree.{Tree}
use Rattle.file_store.specs.declared.store.Entry.{Entry}
use Rattle.file_store.specs.declared.loading.LoadFault.{LoadFault}
use Rattle.file_store.specs.declared.loading.LoadFault.TheVariants.{
  Listing,
  Reading,
  Files,
  Bytes,
  Large,
  BadPath,
  Memory,
}
use Rattle.file_store.proofs.Order.{paths_in-entries_of}
use Rattle.file_store.proofs.Lookups.{found}

-- ---- a store that tells its files

pub told : {X : Type 0} {o : Option X} {t : X} (P : X → Type 0) → o ≡ Some t → IfSome o P → P t
told P is h = subst (λ x. IfSome x P) is h

pub when_told : {X : Type 0} (o : Option X) {P : X → Type 0} → ((t : X) → o ≡ Some t → P t)
    → IfSome o P
when_told None h = tt
when_told (Some x) h = h x refl

-- an entry of the listing, at its place
pub record IsListed (files : List File) (i : ℕ) (entries : List Entry) (e : Entry) : Type 0 where
  pub in_order : are_in_order files ≡ true
  pub listed : entries ≡ entries_of files
  pub within : i < length entries
  pub entry : e ≡ get_or entries i e

pub listed_within : (files : List File) (i : ℕ) (entries : List Entry) (e : Entry)
    → IsListed files i entries e → i < length files
listed_within files i entries e l = omega
    (arith, ap length l.listed, length-map files entry_of, l.within)

pub listed_entry : (files : List File) (i : ℕ) (entries : List Entry) (e : Entry) (d : File)
    → IsListed files i entries e → e ≡ entry_of (get_or files i d)
listed_entry files i entries e d l = l.entry ∙ ap (λ es. get_or es i e) l.listed
    ∙ get_or-map entry_of files i d e (listed_within files i entries e l)

listed_found : (files : List File) (i : ℕ) (entries : List Entry) (e : Entry) (d : File)
    → IsListed files i entries e → file_at e.path files ≡ Some (get_or files i d)
listed_found files i entries e d l =
    ap (λ x. file_at x.path files) (listed_entry files i entries e d l)
    ∙ found files i d l.in_order (listed_within files i entries e l)

-- a file that was read by its entry
pub record IsRead (files : List File) (e : Entry) (f : File) : Type 0 where
  pub path : f.path ≡ e.path
  pub stamp : f.stamp ≡ e.stamp
  pub bytes : f.bytes ≡ take e.size (bytes_at e.path files)

all_of : (xs : List ℕ) → take (length xs) xs ≡ xs
all_of xs = grind (arith, common_steps)

same_file : (f g : File) → f.path ≡ g.path → f.bytes ≡ g.bytes → f.stamp ≡ g.stamp → f ≡ g
same_file f g p b s =
    let at_path : List ℕ → File = λ x. record { path = x; bytes = f.bytes; stamp = f.stamp } in
    let at_bytes : List ℕ → File = λ x. record { path = g.path; bytes = x; stamp = f.stamp } in
    let at_stamp : ℕ → File = λ x. record { path = g.path; bytes = g.bytes; stamp = x } in
    ap at_path p ∙ ap at_bytes b ∙ ap at_stamp s

-- is the file at that place
pub read_file : (files : List File) (i : ℕ) (entries : List Entry) (e : Entry) (f : File)
    → IsListed files i entries e → IsRead files e f → f ≡ get_or files i f
read_file files i entries e f l r =
    let g : File = get_or files i f in
    let is = listed_entry files i entries e f l in
    let there : bytes_at e.path files ≡ g.bytes = ap bytes_or_none
    (listed_found files i entries e f l) in
    let bytes : f.bytes ≡ g.bytes = r.bytes ∙ ap (take e.size) there
    ∙ ap (λ x. take x.size g.bytes) is ∙ all_of g.bytes in
    same_file f g (r.path ∙ ap (λ x. x.path) is) bytes (r.stamp ∙ ap (λ x. x.stamp) is)

pub files_more : (files : List File) (i : ℕ) (entries : List Entry) (e : Entry) (front : List File)
    (f : File) → IsListed files i entries e → IsRead files e f → front ≡ take i files
    → front ++ f ∷ [] ≡ take (i + 1) files
files_more files i entries e front f l r is =
    ap (λ fs. fs ++ f ∷ []) is ∙ ap (λ x. take i files ++ x ∷ [])
    (read_file files i entries e f l r) ∙ sym
    (take_more files i f (listed_within files i entries e l))

pub take_past : {X : Type 0} (xs : List X) (i : ℕ) → length xs ≤ i → take i xs ≡ xs
take_past xs i h = grind (arith, common_steps)

-- ---- any store

map-push : {X Y : Type 0} (f : X → Y) (xs : List X) (x : X)
    → map f (xs ++ x ∷ []) ≡ map f xs ++ f x ∷ []
map-push f [] x = refl
map-push f (y ∷ xs) x = ap (λ ys. f y ∷ ys) (map-push f xs x)

pub paths_more : (entries : List Entry) (i : ℕ) (e : Entry) (front : List File) (f : File)
    → i < length entries → e ≡ get_or entries i e → f.path ≡ e.path
    → paths_of front ≡ paths_in (take i entries)
    → paths_of (front ++ f ∷ []) ≡ paths_in (take (i + 1) entries)
paths_more entries i e front f h is path so_far =
    map-push (λ g. g.path) front f ∙ ap (λ ps. ps ++ f.path ∷ []) so_far
    ∙ ap (λ p. paths_in (take i entries) ++ p ∷ []) (path ∙ ap (λ x. x.path) is)
    ∙ sym (map-push (λ x. x.path) (take i entries) (get_or entries i e))
    ∙ ap paths_in (sym (take_more entries i e h))

rose_since : (before mid now most : ℕ) → before ≤ mid → min (mid + 1) most ≤ now
    → min (before + 1) most ≤ now
rose_since before mid now most h r = omega arith

-- the path of an entry is one of the listing's
listed_path : (entries : List Entry) (i : ℕ) (e : Entry) (path : List ℕ) → i < length entries
    → e ≡ get_or entries i e → path ≡ e.path → Contains (paths_in entries) path
listed_path entries i e path within is same = (
  i,
  omega (arith, length-map entries (λ x. x.path)),
  get_or-map (λ x. x.path) entries i e path
      within ∙ ap (λ x. x.path) (sym is) ∙ sym same,
)

-- a failed read of one entry is one of the listing's
pub read_among : (before mid now : StoreSeen) (entries : List Entry) (i : ℕ) (e : Entry)
    (fault : LoadFault)
    → before.fault_count ≤ mid.fault_count → i < length entries → e ≡ get_or entries i e
    → IsReadCaused mid now (λ path. path ≡ e.path) fault
    → IsReadCaused before now (Contains (paths_in entries)) fault
read_among before mid now entries i e Listing h within is c = absurd c
read_among before mid now entries i e (Reading path) h within is c = (
  rose_since before.fault_count mid.fault_count now.fault_count _ h c.0,
  listed_path entries i e path within is c.1,
)
read_among before mid now entries i e (Files number) h within is c = absurd c
read_among before mid now entries i e (Bytes total) h within is c = absurd c
read_among before mid now entries i e (Large path) h within is c = absurd c
read_among before mid now entries i e (BadPath path) h within is c = absurd c
read_among before mid now entries i e Memory h within is c = tt

-- ---- the listing that was got

-- a listing in byte order, which is that of the files where they are told
pub record IsListing (tree : Option (List File)) (listing : List Entry) : Type 0 where
  pub in_order : are_listed_in_order listing ≡ true
  pub told : IfSome tree (λ files. listing ≡ entries_of files)

of_listing : (tree : Option (List File)) (listing : List Entry) (P : List Entry → Type 0)
    → IsListing tree listing → P listing → OfListing tree P
of_listing None listing P l p = (listing, l.in_order, p)
of_listing (Some files) listing P l p = subst P l.told p

-- a listed path has a file
file_of_next : (f : File) (o : Option File) (b : Bool) → IsSome o → IsSome (cond b (Some f) o)
file_of_next f o true some = refl
file_of_next f o false some = some

file_of : (path : List ℕ) (files : List File) (i : ℕ) → i < length files
    → get_or (paths_of files) i path ≡ path → IsSome (file_at path files)
file_of path [] i within is = absurd (omega arith)
file_of path (f ∷ fs) zero within is = rw ((bytes_eq-Decides f.path path).1 is) refl
file_of path (f ∷ fs) (suc i) within is = file_of_next f (file_at path fs) (bytes_eq f.path path)
    (file_of path fs i (omega arith) is)

listed_file : (path : List ℕ) (files : List File) → Contains (paths_in (entries_of files)) path
    → IsSome (file_at path files)
listed_file path files c =
    let d : Contains (paths_of files) path = subst (λ ps. Contains ps path)
    (paths_in-entries_of files) c in
    file_of path files d.0 (omega (arith, length-map files (λ f. f.path), d.1)) d.2

told_file : (path : List ℕ) (tree : Option (List File)) (listing : List Entry)
    → IsListing tree listing → Contains (paths_in listing) path
    → IfSome tree (λ files. IsSome (file_at path files))
told_file path None listing l c = tt
told_file path (Some files) listing l c = listed_file path files
    (subst (λ es. Contains (paths_in es) path) l.told c)

loading : (before mid now : StoreSeen) (listing : List Entry) (fault : LoadFault)
    → before.fault_count ≤ mid.fault_count → IsListing before.tree listing
    → limit_fault listing ≡ None → IsReadCaused mid now (Contains (paths_in listing)) fault
    → IsCaused before now fault
loading before mid now listing Listing h l none c = absurd c
loading before mid now listing (Reading path) h l none c = (
  rose_since before.fault_count mid.fault_count now.fault_count _ h c.0,
  told_file path before.tree listing l c.1,
  of_listing before.tree listing
      (IsLoading path) l (record { within = none; listed = c.1 }),
)
loading before mid now listing (Files number) h l none c = absurd c
loading before mid now listing (Bytes total) h l none c = absurd c
loading before mid now listing (Large path) h l none c = absurd c
loading before mid now listing (BadPath path) h l none c = absurd c
loading before mid now listing Memory h l none c = tt

pub failed : (before mid now : StoreSeen) (listing : List Entry) (result : Result Tree LoadFault)
    → before.fault_count ≤ mid.fault_count → IsListing before.tree listing
    → limit_fault listing ≡ None → IfErr result (IsReadCaused mid now (Contains (paths_in listing)))
    → IfErr result (IsCaused before now)
failed before mid now listing (Ok t) h l none c = tt
failed before mid now listing (Err fault) h l none c = loading before mid now listing fault h l none
    c
