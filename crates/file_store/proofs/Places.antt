-- The place of a path among files in order.
use Rattle.std.proofs.Common.{
  ◌≡◌,
  ℕ,
  zero,
  suc,
  ◌+◌,
  ◌<◌,
  ◌≤◌,
  List,
  [],
  ◌∷◌,
  ◌++◌,
  length,
  take,
  drop,
  get_or,
  Bool,
  true,
  false,
  ◌==◌,
  refl,
  sym,
  ap,
  ◌∙◌,
  arith,
  inl,
  inr,
  add-one,
  slice_set,
}
use Rattle.std.specs.List.{filter}
use Rattle.std.specs.List.Sorted.{IsPartitionPoint}
use Rattle.std.specs.declared.cmp.Ordering.{Ordering}
use Rattle.std.specs.declared.cmp.Ordering.TheVariants.{Less, Equal, Greater}
use Rattle.std.specs.Ordering.{ordering_index, nat_cmp}
use Rattle.std.specs.Cmp.Lexicographic.{slice_cmp}
use Rattle.file_store.specs.Files.{are_in_order}
use Rattle.file_store.specs.Writes.{is_at_side, put_in, IsPlace}
use Rattle.file_store.specs.declared.tree.File.{File}
use Rattle.file_store.proofs.Order.{before_later, less, greater}
use Rattle.file_store.proofs.Lookups.{order_at, same, below_or_not}

front_kept : (t : File → Bool) (fs : List File) (i : ℕ)
    → ((k : ℕ) (d : File) → k < length fs → k < i → t (get_or fs k d) ≡ true)
    → ((k : ℕ) (d : File) → k < length fs → i ≤ k → t (get_or fs k d) ≡ false)
    → take i fs ≡ filter t fs
front_kept t [] zero passes fails = refl
front_kept t [] (suc i) passes fails = refl
front_kept t (f ∷ fs) zero passes fails =
    rw (fails zero f (omega arith) (omega arith))
    (front_kept t fs zero (λ k d w b. absurd (omega arith))
    (λ k d w b. fails (suc k) d (omega arith) (omega arith)))
front_kept t (f ∷ fs) (suc i) passes fails =
    rw (passes zero f (omega arith) (omega arith))
    (ap (λ gs. f ∷ gs)
    (front_kept t fs i (λ k d w b. passes (suc k) d (omega arith) (omega arith))
    (λ k d w b. fails (suc k) d (omega arith) (omega arith))))

back_kept : (t : File → Bool) (fs : List File) (i : ℕ)
    → ((k : ℕ) (d : File) → k < length fs → k < i → t (get_or fs k d) ≡ false)
    → ((k : ℕ) (d : File) → k < length fs → i ≤ k → t (get_or fs k d) ≡ true)
    → drop i fs ≡ filter t fs
back_kept t [] zero fails passes = refl
back_kept t [] (suc i) fails passes = refl
back_kept t (f ∷ fs) zero fails passes =
    rw (passes zero f (omega arith) (omega arith))
    (ap (λ gs. f ∷ gs)
    (back_kept t fs zero (λ k d w b. absurd (omega arith))
    (λ k d w b. passes (suc k) d (omega arith) (omega arith))))
back_kept t (f ∷ fs) (suc i) fails passes =
    rw (fails zero f (omega arith) (omega arith))
    (back_kept t fs i (λ k d w b. fails (suc k) d (omega arith) (omega arith))
    (λ k d w b. passes (suc k) d (omega arith) (omega arith)))

at_side : (path : List ℕ) (side o : Ordering) (f : File) → order_at path f ≡ o
    → is_at_side path side f ≡ (ordering_index o == ordering_index side)
at_side path side o f is = ap (λ x. ordering_index x == ordering_index side) is

-- where the search by halves has met no file
pub missing_place : (path : List ℕ) (fs : List File) (i : ℕ) → i ≤ length fs
    → IsPartitionPoint (λ f. order_at path f ≡ Less) (λ f. order_at path f ≡ Greater) fs i
    → IsPlace path fs i i
missing_place path fs i within split = record {
  front = front_kept (is_at_side path Less) fs i
      (λ k d w b. at_side path Less Less (get_or fs k d) (split.0 k d (omega arith) b))
      (λ k d w b. at_side path Less Greater (get_or fs k d) (split.1 k d b w));
  back = back_kept (is_at_side path Greater) fs i
      (λ k d w b. at_side path Greater Less (get_or fs k d) (split.0 k d (omega arith) b))
      (λ k d w b. at_side path Greater Greater (get_or fs k d) (split.1 k d b w));
  within = within;
}

-- where it has met one
front_order : (path : List ℕ) (fs : List File) (i k : ℕ) (d : File) → are_in_order fs ≡ true
    → order_at path (get_or fs i d) ≡ Equal → i < length fs → k < i
    → order_at path (get_or fs k d) ≡ Less
front_order path fs i k d h equal within below =
    ap (slice_cmp nat_cmp (get_or fs k d).path) (same path (get_or fs i d) equal)
    ∙ less (get_or fs k d).path (get_or fs i d).path (before_later fs k i d h below within)

back_order : (path : List ℕ) (fs : List File) (i k : ℕ) (d : File) → are_in_order fs ≡ true
    → order_at path (get_or fs i d) ≡ Equal → k < length fs → i < k
    → order_at path (get_or fs k d) ≡ Greater
back_order path fs i k d h equal within above =
    ap (slice_cmp nat_cmp (get_or fs k d).path) (same path (get_or fs i d) equal)
    ∙ greater (get_or fs i d).path (get_or fs k d).path (before_later fs i k d h above within)

not_less : (path : List ℕ) (fs : List File) (i k : ℕ) (d : File) → are_in_order fs ≡ true
    → order_at path (get_or fs i d) ≡ Equal → k < length fs → i ≤ k
    → is_at_side path Less (get_or fs k d) ≡ false
not_less path fs i k d h equal within from = elim (below_or_not i k) [
  | inl above ↦ at_side path Less Greater (get_or fs k d)
      (back_order path fs i k d h equal within above)
  | inr here ↦ at_side path Less Equal (get_or fs k d)
      (ap (λ n. order_at path (get_or fs n d)) (omega arith) ∙ equal)
]

not_greater : (path : List ℕ) (fs : List File) (i k : ℕ) (d : File) → are_in_order fs ≡ true
    → order_at path (get_or fs i d) ≡ Equal → i < length fs → k < i + 1
    → is_at_side path Greater (get_or fs k d) ≡ false
not_greater path fs i k d h equal within to = elim (below_or_not k i) [
  | inl below ↦ at_side path Greater Less (get_or fs k d)
      (front_order path fs i k d h equal within below)
  | inr here ↦ at_side path Greater Equal (get_or fs k d)
      (ap (λ n. order_at path (get_or fs n d)) (omega arith) ∙ equal)
]

pub met_place : (path : List ℕ) (fs : List File) (i : ℕ) → are_in_order fs ≡ true → i < length fs
    → ((d : File) → order_at path (get_or fs i d) ≡ Equal) → IsPlace path fs i (i + 1)
met_place path fs i h within equal = record {
  front = front_kept (is_at_side path Less) fs i
      (λ k d w b. at_side path Less Less (get_or fs k d)
      (front_order path fs i k d h (equal d) within b))
      (λ k d w b. not_less path fs i k d h (equal d) w b);
  back = back_kept (is_at_side path Greater) fs (i + 1)
      (λ k d w b. not_greater path fs i k d h (equal d) within b)
      (λ k d w b. at_side path Greater Greater (get_or fs k d)
      (back_order path fs i k d h (equal d) w (omega arith)));
  within = omega arith;
}

-- a file put in place of the one there
replaced : (fs : List File) (i : ℕ) (f : File) → i < length fs
    → slice_set fs i f ≡ take i fs ++ f ∷ drop (suc i) fs
replaced [] i f within = absurd (omega arith)
replaced (g ∷ fs) zero f within = refl
replaced (g ∷ fs) (suc i) f within = ap (λ gs. g ∷ gs) (replaced fs i f (omega arith))

pub put_there : (file : File) (fs : List File) (i : ℕ) → IsPlace file.path fs i (i + 1)
    → slice_set fs i file ≡ put_in file.path file.bytes file.stamp fs
put_there file fs i place =
    replaced fs i file (omega (arith, place.within))
    ∙ ap (λ n. take i fs ++ file ∷ drop n fs) (sym (add-one i))
    ∙ ap (λ gs. gs ++ file ∷ drop (i + 1) fs) place.front
    ∙ ap (λ gs. filter (is_at_side file.path Less) fs ++ file ∷ gs) place.back
