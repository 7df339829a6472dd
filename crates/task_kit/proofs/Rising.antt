-- The paths of a view stand in byte order.
use Rattle.std.proofs.Common.{
  ◌≡◌,
  ℕ,
  zero,
  suc,
  ◌+◌,
  ◌<◌,
  List,
  [],
  ◌∷◌,
  length,
  get_or,
  map,
  filter,
  Bool,
  cond,
  true,
  false,
  refl,
  ap,
  ◌∙◌,
  add-one,
  arith,
  IsSorted,
}
use Rattle.std.specs.List.{list_all}
use Rattle.std.specs.BTreeSet.{insert_key}
use Rattle.std.specs.Cmp.Lexicographic.{slice_cmp}
use Rattle.std.specs.Ordering.{is_lt, nat_cmp, match_ordering, ordering_reverse}
use Rattle.std.specs.declared.cmp.Ordering.{Ordering}
use Rattle.std.specs.declared.cmp.Ordering.TheVariants.{Less, Equal, Greater}
use Rattle.std.proofs.lemmas.Cmp.{nat_list_cmp_total}
use Rattle.msb_values.specs.Acts.{act_path}
use Rattle.file_store.specs.Files.{paths_of}
use Rattle.file_store.specs.Paths.{is_before, are_rising}
use Rattle.file_store.proofs.Order.{and_true, both_true, chain, greater}
use Rattle.msb_files.specs.Views.{View, with_paths, acts_of, paths, paths_met}

all_after : (p q : List ℕ) (ps : List (List ℕ)) → is_before p q ≡ true
    → list_all (is_before q) ps ≡ true → list_all (is_before p) ps ≡ true
all_after p q [] first rest = refl
all_after p q (r ∷ ps) first rest = let two = and_true _ _ rest in both_true _ _
    (chain p q r first two.0) (all_after p q ps first two.1)

all_with : (p q : List ℕ) (ps : List (List ℕ)) → is_before p q ≡ true
    → list_all (is_before p) ps ≡ true
    → list_all (is_before p) (insert_key (slice_cmp nat_cmp) ps q) ≡ true
all_with p q [] first rest = both_true _ _ first refl
all_with p q (r ∷ ps) first rest = by (slice_cmp nat_cmp q r)
    (all_with p q ps first (and_true _ _ rest).1)
  where
    by : (o : Ordering) → list_all (is_before p) (insert_key (slice_cmp nat_cmp) ps q) ≡ true
        → list_all (is_before p)
        (match_ordering o (q ∷ r ∷ ps) (r ∷ ps) (r ∷ insert_key (slice_cmp nat_cmp) ps q)) ≡ true
    by Less more = both_true _ _ first rest
    by Equal more = rest
    by Greater more = both_true _ _ (and_true _ _ rest).0 more

behind : (p q : List ℕ) → slice_cmp nat_cmp q p ≡ Greater → is_before p q ≡ true
behind p q is = ap is_lt (nat_list_cmp_total.antisymm p q ∙ ap ordering_reverse is)

with_one : (ps : List (List ℕ)) (q : List ℕ) → are_rising ps ≡ true
    → are_rising (insert_key (slice_cmp nat_cmp) ps q) ≡ true
with_one [] q rising = refl
with_one (p ∷ ps) q rising = by (slice_cmp nat_cmp q p) refl (with_one ps q (and_true _ _ rising).1)
  where
    by : (o : Ordering) → slice_cmp nat_cmp q p ≡ o
        → are_rising (insert_key (slice_cmp nat_cmp) ps q) ≡ true
        → are_rising
        (match_ordering o (q ∷ p ∷ ps) (p ∷ ps) (p ∷ insert_key (slice_cmp nat_cmp) ps q)) ≡ true
    by Less is more = let first : is_before q p
        ≡ true = ap is_lt is in both_true _ _
        (both_true _ _ first (all_after q p ps first (and_true _ _ rising).0)) rising
    by Equal is more = rising
    by Greater is more = both_true _ _ (all_with p q ps (behind p q is) (and_true _ _ rising).0)
        more

with_all : (ps others : List (List ℕ)) → are_rising others ≡ true
    → are_rising (with_paths ps others) ≡ true
with_all [] others rising = rising
with_all (p ∷ ps) others rising = with_all ps (insert_key (slice_cmp nat_cmp) others p)
    (with_one others p rising)

next : (ps : List (List ℕ)) (k : ℕ) (d : List ℕ) → are_rising ps ≡ true → k + 1 < length ps
    → is_lt (slice_cmp nat_cmp (get_or ps (suc k) d) (get_or ps k d)) ≡ false
next [] k d rising within = absurd (omega arith)
next (p ∷ []) k d rising within = absurd (omega arith)
next (p ∷ q ∷ ps) zero d rising within = ap is_lt
    (greater p q (and_true _ _ (and_true _ _ rising).0).0)
next (p ∷ q ∷ ps) (suc k) d rising within = next (q ∷ ps) k d (and_true _ _ rising).1 (omega arith)

sorted : (ps : List (List ℕ)) → are_rising ps ≡ true → IsSorted (slice_cmp nat_cmp) ps
sorted ps rising = λ k d low within. rw add-one (next ps k d rising within)

filtered_after : (test : List ℕ → Bool) (p : List ℕ) (ps : List (List ℕ))
    → list_all (is_before p) ps ≡ true
    → list_all (is_before p) (filter test ps) ≡ true
filtered_after test p [] after = refl
filtered_after test p (q ∷ ps) after = by (test q) (filtered_after test p ps (and_true _ _ after).1)
  where
    by : (b : Bool) → list_all (is_before p) (filter test ps) ≡ true
        → list_all (is_before p) (cond b (q ∷ filter test ps) (filter test ps)) ≡ true
    by true more = both_true _ _ (and_true _ _ after).0 more
    by false more = more

-- some of the paths stand in byte order too
filtered : (test : List ℕ → Bool) (ps : List (List ℕ)) → are_rising ps ≡ true
    → are_rising (filter test ps) ≡ true
filtered test [] rising = refl
filtered test (p ∷ ps) rising = by (test p) (filtered test ps (and_true _ _ rising).1)
  where
    by : (b : Bool) → are_rising (filter test ps) ≡ true
        → are_rising (cond b (p ∷ filter test ps) (filter test ps)) ≡ true
    by true more = both_true _ _ (filtered_after test p ps (and_true _ _ rising).0) more
    by false more = more

met : (view : View) → are_rising (paths_met view) ≡ true
met view =
    with_all (paths_of view.files) _ (with_all (map act_path (acts_of view.journal)) [] refl)

pub paths_sorted : (view : View) → IsSorted (slice_cmp nat_cmp) (paths view)
paths_sorted view = sorted (paths view) (filtered _ (paths_met view) (met view))
