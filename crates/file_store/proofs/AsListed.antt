-- Files that are no larger than their entries say are within the limits that the entries are.
use Rattle.std.proofs.Common.{
  ◌≡◌,
  ℕ,
  ◌+◌,
  ◌<◌,
  ◌≤◌,
  List,
  [],
  ◌∷◌,
  ◌++◌,
  length,
  take,
  get_or,
  Bool,
  true,
  false,
  cond,
  nat_lt,
  Option,
  Some,
  None,
  slice_get,
  Result,
  Ok,
  Err,
  IfOk,
  refl,
  sym,
  ap,
  ◌∙◌,
  subst,
  arith,
}
use Rattle.std.specs.List.{fold, filter_map, cons_option}
use Rattle.std.proofs.lemmas.Bool.Decides.{nat_tests}
use Rattle.std.proofs.lemmas.List.{take_more}
use Rattle.msb_paths.specs.Normal.{is_normal}
use Rattle.file_store.specs.Entries.{entry_of, entries_of}
use Rattle.file_store.specs.Limits.{
  limit_fault,
  entry_fault,
  first_fault,
  total_size,
  most_files,
  most_bytes,
  most_file_bytes,
}
use Rattle.file_store.specs.Loads.{AreAsListed}
use Rattle.file_store.specs.declared.tree.File.{File}
use Rattle.file_store.specs.declared.tree.Tree.{Tree}
use Rattle.file_store.specs.declared.store.Entry.{Entry}
use Rattle.file_store.specs.declared.loading.LoadFault.{LoadFault}

-- ---- one more file

pushed : (es : List Entry) (fs : List File) (e : Entry) (f : File) → AreAsListed es fs
    → f.path ≡ e.path → length f.bytes ≤ e.size → AreAsListed (es ++ e ∷ []) (fs ++ f ∷ [])
pushed [] [] e f h path size = (path, size, tt)
pushed [] (g ∷ fs) e f h path size = absurd h
pushed (d ∷ es) [] e f h path size = absurd h
pushed (d ∷ es) (g ∷ fs) e f h path size = (h.0, h.1, pushed es fs e f h.2 path size)

pub listed_more : (entries : List Entry) (i : ℕ) (e : Entry) (front : List File) (f : File)
    → i < length entries → e ≡ get_or entries i e → f.path ≡ e.path → length f.bytes ≤ e.size
    → AreAsListed (take i entries) front → AreAsListed (take (i + 1) entries) (front ++ f ∷ [])
listed_more entries i e front f within is path size so_far =
    let P : List Entry → Type 0 = λ es. AreAsListed es (front ++ f ∷ []) in
    subst P (ap (λ x. take i entries ++ x ∷ []) is ∙ sym (take_more entries i e within))
    (pushed (take i entries) front e f so_far path size)

-- ---- the limits

not_over : (most a b : ℕ) → nat_lt most a ≡ false → b ≤ a → nat_lt most b ≡ false
not_over most a b = grind (arith, nat_tests)

length_same : (es : List Entry) (fs : List File) → AreAsListed es fs
    → length (entries_of fs) ≤ length es
length_same [] [] h = omega arith
length_same [] (f ∷ fs) h = absurd h
length_same (e ∷ es) [] h = absurd h
length_same (e ∷ es) (f ∷ fs) h = let rest = length_same es fs h.2 in omega arith

sum_below : (a b : ℕ) (es : List Entry) (fs : List File) → AreAsListed es fs → a ≤ b
    → fold (λ n e. n + e.size) a (entries_of fs) ≤ fold (λ n e. n + e.size) b es
sum_below a b [] [] h below = below
sum_below a b [] (f ∷ fs) h below = absurd h
sum_below a b (e ∷ es) [] h below = absurd h
sum_below a b (e ∷ es) (f ∷ fs) h below = sum_below (a + length f.bytes) (b + e.size) es fs h.2
    (omega (arith, h.1))

total_below : (es : List Entry) (fs : List File) → AreAsListed es fs
    → total_size (entries_of fs) ≤ total_size es
total_below es fs h = sum_below 0 0 es fs h (omega arith)

entry_parts : (normal large : Bool) (x y : LoadFault)
    → cond normal (cond large (Some x) None) (Some y) ≡ None → (normal ≡ true) × (large ≡ false)
entry_parts true true x y is = absurd (cc)
entry_parts true false x y is = (refl, refl)
entry_parts false large x y is = absurd (cc)

entry_whole : (normal large : Bool) (x y : LoadFault) → normal ≡ true → large ≡ false
    → cond normal (cond large (Some x) None) (Some y) ≡ None
entry_whole normal large x y is_normal not_large = rw (is_normal, not_large) refl

entry_within : (e : Entry) (f : File) → f.path ≡ e.path → length f.bytes ≤ e.size
    → entry_fault e ≡ None → entry_fault (entry_of f) ≡ None
entry_within e f path size none =
    let parts = entry_parts (is_normal e.path) (nat_lt most_file_bytes e.size) _ _ none in
    entry_whole (is_normal f.path) (nat_lt most_file_bytes (length f.bytes)) _ _
    (ap is_normal path ∙ parts.0)
    (not_over most_file_bytes e.size (length f.bytes) parts.1 size)

abbrev first_with : List Entry → Option LoadFault → Option LoadFault
first_with rest fault = slice_get (cons_option fault (filter_map entry_fault rest)) 0

first_parts : (rest : List Entry) (fault : Option LoadFault) → first_with rest fault ≡ None
    → (fault ≡ None) × (first_fault rest ≡ None)
first_parts rest None is = (refl, is)
first_parts rest (Some x) is = absurd (cc)

first_within : (es : List Entry) (fs : List File) → AreAsListed es fs → first_fault es ≡ None
    → first_fault (entries_of fs) ≡ None
first_within [] [] h none = refl
first_within [] (f ∷ fs) h none = absurd h
first_within (e ∷ es) [] h none = absurd h
first_within (e ∷ es) (f ∷ fs) h none =
    let parts = first_parts es (entry_fault e) none in
    ap (first_with (entries_of fs)) (entry_within e f h.0 h.1 parts.0)
    ∙ first_within es fs h.2 parts.1

limit_parts : (many large : Bool) (x y : LoadFault) (z : Option LoadFault)
    → cond many (Some x) (cond large (Some y) z) ≡ None
    → (many ≡ false) × (large ≡ false) × (z ≡ None)
limit_parts true large x y z is = absurd (cc)
limit_parts false true x y z is = absurd (cc)
limit_parts false false x y z is = (refl, refl, is)

limit_whole : (many large : Bool) (x y : LoadFault) (z : Option LoadFault) → many ≡ false
    → large ≡ false → z ≡ None → cond many (Some x) (cond large (Some y) z) ≡ None
limit_whole many large x y z not_many not_large none = rw (not_many, not_large) none

pub loaded_within : (es : List Entry) (fs : List File) → AreAsListed es fs → limit_fault es ≡ None
    → limit_fault (entries_of fs) ≡ None
loaded_within es fs h none =
    let parts = limit_parts (nat_lt most_files (length es)) (nat_lt most_bytes (total_size es)) _ _
    (first_fault es) none in
    limit_whole (nat_lt most_files (length (entries_of fs)))
    (nat_lt most_bytes (total_size (entries_of fs))) _ _ (first_fault (entries_of fs))
    (not_over most_files (length es) _ parts.0 (length_same es fs h))
    (not_over most_bytes (total_size es) _ parts.1 (total_below es fs h))
    (first_within es fs h parts.2)

pub tree_within : (es : List Entry) (result : Result Tree LoadFault) → limit_fault es ≡ None
    → IfOk result (λ t. AreAsListed es t.files)
    → IfOk result (λ t. limit_fault (entries_of t.files) ≡ None)
tree_within es (Ok tree) none h = loaded_within es tree.files h none
tree_within es (Err fault) none h = tt
