-- Paths in byte order.
use Rattle.std.proofs.Common.{◌≡◌, ℕ, List, [], ◌∷◌, true, refl, ap}
use Rattle.std.specs.List.{list_all, AllByRecursion}
use Rattle.std.specs.List.Sorted.{IsStrictlySortedBy}
use Rattle.std.specs.declared.cmp.Ordering.TheVariants.{Less}
use Rattle.std.specs.Ordering.{is_lt, nat_cmp}
use Rattle.std.specs.Cmp.Lexicographic.{slice_cmp}
use Rattle.file_store.specs.Paths.{is_before, are_rising}
use Rattle.file_store.proofs.Order.{both_true}

list_all-before : (p : List ℕ) (ps : List (List ℕ))
    → AllByRecursion (λ q. slice_cmp nat_cmp p q ≡ Less) ps → list_all (is_before p) ps ≡ true
list_all-before p [] h = refl
list_all-before p (q ∷ ps) h = both_true _ _ (ap is_lt h.0) (list_all-before p ps h.1)

-- paths in order rise
pub are_rising-from_sorted : (ps : List (List ℕ)) → IsStrictlySortedBy (slice_cmp nat_cmp) ps
    → are_rising ps ≡ true
unfolding IsStrictlySortedBy
are_rising-from_sorted [] h = refl
are_rising-from_sorted (p ∷ ps) h = both_true _ _ (list_all-before p ps h.0)
    (are_rising-from_sorted ps h.1)
