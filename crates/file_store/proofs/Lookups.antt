-- The file at a path, among files in order.
use Rattle.std.proofs.Common.{
  ◌≡◌,
  ℕ,
  zero,
  suc,
  ◌+◌,
  ◌<◌,
  ◌≤◌,
  List,
  [],
  ◌∷◌,
  length,
  get_or,
  true,
  false,
  Some,
  None,
  refl,
  sym,
  ap,
  ◌∙◌,
  arith,
  ◌⊎◌,
  inl,
  inr,
}
use Rattle.std.specs.declared.cmp.Ordering.{Ordering}
use Rattle.std.specs.declared.cmp.Ordering.TheVariants.{Less, Equal, Greater}
use Rattle.std.specs.Ordering.{is_lt, is_eq, ordering_index, nat_cmp}
use Rattle.std.specs.Cmp.Lexicographic.{slice_cmp}
use Rattle.std.specs.List.Sorted.{IsNonDecreasingBy, IsPartitionPoint}
use Rattle.std.specs.Str.{bytes_eq}
use Rattle.std.proofs.lemmas.Cmp.{nat_list_cmp_total}
use Rattle.std.proofs.lemmas.List.Sorted.{searchable_from_sorted}
use Rattle.std.proofs.lemmas.Map.Text.{is_eq-slice_cmp}
use Rattle.std.proofs.lemmas.Slice.Eq.{bytes_eq-Decides}
use Rattle.file_store.specs.Files.{are_in_order, file_at}
use Rattle.file_store.specs.declared.tree.File.{File}
use Rattle.file_store.proofs.Order.{
  and_true,
  other,
  bytes_eq-same,
  before_each,
  before_later,
  greater,
}

-- a file is found by its path
pub found : (fs : List File) (i : ℕ) (d : File) → are_in_order fs ≡ true → i < length fs
    → file_at (get_or fs i d).path fs ≡ Some (get_or fs i d)
found [] i d h w = absurd (omega arith)
found (f ∷ fs) zero d h w = rw (bytes_eq-same f.path)
found (f ∷ fs) (suc i) d h w =
    let both = and_true _ _ h in
    rw (other f.path (get_or fs i d).path (before_each f.path fs i d both.0 (omega arith)))
    (found fs i d both.1 (omega arith))

-- where no file has the path, none is found
pub absent : (path : List ℕ) (fs : List File)
    → ((k : ℕ) (d : File) → k < length fs → bytes_eq (get_or fs k d).path path ≡ false)
    → file_at path fs ≡ None
absent path [] none = refl
absent path (f ∷ fs) none = rw (none zero f (omega arith))
    (absent path fs (λ k d w. none (suc k) d (omega arith)))

abbrev pub order_at : List ℕ → File → Ordering
order_at path f = slice_cmp nat_cmp f.path path

-- a search by halves at the path goes the right way
pub searchable : (path : List ℕ) (fs : List File) → are_in_order fs ≡ true
    → IsNonDecreasingBy (λ f. ordering_index (order_at path f)) fs
searchable path fs h = searchable_from_sorted nat_list_cmp_total (λ f. f.path) fs path
    (λ k d low w.
    ap is_lt
    (greater (get_or fs k d).path (get_or fs (k + 1) d).path
    (before_later fs k (k + 1) d h (omega arith) w)))

pub same : (path : List ℕ) (f : File) → order_at path f ≡ Equal → path ≡ f.path
same path f e = sym
    ((bytes_eq-Decides f.path path).0 (sym (is_eq-slice_cmp f.path path) ∙ ap is_eq e))

-- the file that a search by halves has met
pub met : (path : List ℕ) (fs : List File) (i : ℕ) (f : File) → are_in_order fs ≡ true
    → i < length fs → f ≡ get_or fs i f → ((d : File) → order_at path (get_or fs i d) ≡ Equal)
    → Some f ≡ file_at path fs
met path fs i f h w is equal = sym (ap (λ p. file_at p fs) (same path (get_or fs i f) (equal f))
    ∙ found fs i f h w ∙ ap Some (sym is))

pub below_or_not : (k i : ℕ) → (k < i) ⊎ (i ≤ k)
below_or_not k zero = inr (omega arith)
below_or_not zero (suc i) = inl (omega arith)
below_or_not (suc k) (suc i) = elim (below_or_not k i)
    [ inl b ↦ inl (omega arith) | inr b ↦ inr (omega arith) ]

-- where it has met none, there is none
pub missed : (path : List ℕ) (fs : List File) (i : ℕ)
    → IsPartitionPoint (λ f. order_at path f ≡ Less) (λ f. order_at path f ≡ Greater) fs i
    → file_at path fs ≡ None
missed path fs i split = absent path fs (λ k d w. elim (below_or_not k i) [
  | inl b ↦ sym (is_eq-slice_cmp _ path) ∙ ap is_eq (split.0 k d (omega arith) b)
  | inr b ↦ sym (is_eq-slice_cmp _ path) ∙ ap is_eq (split.1 k d b w)
])
