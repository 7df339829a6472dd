-- The first fault of a listing's entries.
use Rattle.std.proofs.Common.{
  ◌≡◌,
  ℕ,
  ◌+◌,
  ◌<◌,
  List,
  length,
  get_or,
  drop,
  Option,
  None,
  Err,
  slice_get,
  sym,
  ap,
  ◌∙◌,
}
use Rattle.std.specs.List.{filter_map, cons_option}
use Rattle.std.proofs.lemmas.List.{drop_more}
use Rattle.file_store.specs.Limits.{Tells, entry_fault, first_fault}
use Rattle.file_store.specs.declared.store.Entry.{Entry}
use Rattle.file_store.specs.declared.loading.LoadFault.{LoadFault}
use Rattle.file_store.specs.declared.loading.LoadFault.TheVariants.{
  Listing,
  Reading,
  Files,
  Bytes,
  Large,
  BadPath,
  Memory,
}

-- an entry at its place, behind entries without a fault
pub record IsNext (entries : List Entry) (i : ℕ) (e : Entry) : Type 0 where
  pub left : first_fault (drop i entries) ≡ first_fault entries
  pub within : i < length entries
  pub entry : e ≡ get_or entries i e

abbrev first_with : List Entry → Option LoadFault → Option LoadFault
first_with rest fault = slice_get (cons_option fault (filter_map entry_fault rest)) 0

by_next : (entries : List Entry) (i : ℕ) (e : Entry) → IsNext entries i e
    → first_fault entries ≡ first_with (drop (i + 1) entries) (entry_fault e)
by_next entries i e n = sym n.left ∙ ap first_fault (drop_more entries i e n.within)
    ∙ ap (λ x. first_with (drop (i + 1) entries) (entry_fault x)) (sym n.entry)

-- a fault of the next entry is the first
pub first_is : (entries : List Entry) (i : ℕ) (e : Entry) (fault : LoadFault) → IsNext entries i e
    → Tells (entry_fault e) (Err fault) → Tells (first_fault entries) (Err fault)
first_is entries i e Listing n t = absurd t
first_is entries i e (Reading path) n t = absurd t
first_is entries i e (Files number) n t = by_next entries i e n
    ∙ ap (first_with (drop (i + 1) entries)) t
first_is entries i e (Bytes total) n t = by_next entries i e n
    ∙ ap (first_with (drop (i + 1) entries)) t
first_is entries i e (Large path) n t = by_next entries i e n
    ∙ ap (first_with (drop (i + 1) entries)) t
first_is entries i e (BadPath path) n t = by_next entries i e n
    ∙ ap (first_with (drop (i + 1) entries)) t
first_is entries i e Memory n t = tt

-- where it has none, the first is among those behind it
pub first_further : (entries : List Entry) (i : ℕ) (e : Entry) → IsNext entries i e
    → entry_fault e ≡ None → first_fault (drop (i + 1) entries) ≡ first_fault entries
first_further entries i e n none = sym (by_next entries i e n
    ∙ ap (first_with (drop (i + 1) entries)) none)
