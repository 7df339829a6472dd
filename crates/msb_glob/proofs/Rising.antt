-- Paths that rise strictly are sorted.
use Rattle.std.proofs.Common.{
  ◌≡◌,
  ℕ,
  zero,
  suc,
  ◌+◌,
  ◌<◌,
  List,
  [],
  ◌∷◌,
  length,
  get_or,
  true,
  false,
  ap,
  add-one,
  arith,
  IsSorted,
}
use Rattle.std.specs.Ordering.{is_lt, nat_cmp}
use Rattle.std.specs.Cmp.Lexicographic.{slice_cmp}
use Rattle.file_store.specs.Paths.{are_rising}
use Rattle.file_store.proofs.Order.{and_true, greater}

next : (ps : List (List ℕ)) (k : ℕ) (d : List ℕ) → are_rising ps ≡ true → k + 1 < length ps
    → is_lt (slice_cmp nat_cmp (get_or ps (suc k) d) (get_or ps k d)) ≡ false
next [] k d rising within = absurd (omega arith)
next (p ∷ []) k d rising within = absurd (omega arith)
next (p ∷ q ∷ ps) zero d rising within = ap is_lt
    (greater p q (and_true _ _ (and_true _ _ rising).0).0)
next (p ∷ q ∷ ps) (suc k) d rising within = next (q ∷ ps) k d (and_true _ _ rising).1 (omega arith)

pub rising_sorted : (ps : List (List ℕ)) → are_rising ps ≡ true → IsSorted (slice_cmp nat_cmp) ps
rising_sorted ps rising = λ k d low within. rw add-one (next ps k d rising within)
