-- Paths that are put in byte order, each once, stand in byte order, and so do some of them.
use Rattle.std.proofs.Common.{
  ◌≡◌,
  ℕ,
  zero,
  suc,
  ◌+◌,
  ◌<◌,
  List,
  [],
  ◌∷◌,
  length,
  get_or,
  filter,
  Bool,
  cond,
  true,
  false,
  refl,
  ap,
  ◌∙◌,
  add-one,
  arith,
  IsSorted,
}
use Rattle.std.proofs.lemmas.Cmp.{nat_list_cmp_total}
use Rattle.std.specs.BTreeSet.{insert_key}
use Rattle.std.specs.Cmp.Lexicographic.{slice_cmp}
use Rattle.std.specs.Ordering.{is_lt, match_ordering, nat_cmp, ordering_reverse}
use Rattle.std.specs.declared.cmp.Ordering.{Ordering}
use Rattle.std.specs.declared.cmp.Ordering.TheVariants.{Less, Equal, Greater}
use Rattle.msb_files.specs.Views.{with_paths}

-- a path is below all of these
abbrev pub IsBelow : List ℕ → List (List ℕ) → Type 0
IsBelow path [] = Unit {0}
IsBelow path (other ∷ others) = (slice_cmp nat_cmp path other ≡ Less) × IsBelow path others

-- each is below those behind it
abbrev pub IsRising : List (List ℕ) → Type 0
IsRising [] = Unit {0}
IsRising (path ∷ paths) = IsBelow path paths × IsRising paths

below_all : (path other : List ℕ) (paths : List (List ℕ)) → slice_cmp nat_cmp path other ≡ Less
    → IsBelow other paths → IsBelow path paths
below_all path other [] less above = tt
below_all path other (next ∷ paths) less above =
    (nat_list_cmp_total.trans path other next less above.0, below_all path other paths less above.1)

put_above : (first path : List ℕ) (paths : List (List ℕ)) → slice_cmp nat_cmp first path ≡ Less
    → IsBelow first paths → IsBelow first (insert_key (slice_cmp nat_cmp) paths path)
put_above first path [] less above = (less, tt)
put_above first path (next ∷ paths) less above = go (put_above first path paths less above.1)
    (slice_cmp nat_cmp path next)
  where
    go : IsBelow first (insert_key (slice_cmp nat_cmp) paths path) → (o : Ordering)
        → IsBelow first
        (match_ordering o (path ∷ next ∷ paths) (next ∷ paths)
        (next ∷ insert_key (slice_cmp nat_cmp) paths path))
    go later Less = (less, above)
    go later Equal = above
    go later Greater = (above.0, later)

put_rising : (path : List ℕ) (paths : List (List ℕ)) → IsRising paths
    → IsRising (insert_key (slice_cmp nat_cmp) paths path)
put_rising path [] rising = (tt, tt)
put_rising path (next ∷ paths) rising = go (put_rising path paths rising.1)
    (slice_cmp nat_cmp path next) refl
  where
    go : IsRising (insert_key (slice_cmp nat_cmp) paths path) → (o : Ordering)
        → slice_cmp nat_cmp path next ≡ o
        → IsRising
        (match_ordering o (path ∷ next ∷ paths) (next ∷ paths)
        (next ∷ insert_key (slice_cmp nat_cmp) paths path))
    go later Less is = ((is, below_all path next paths is rising.0), rising)
    go later Equal is = rising
    go later Greater is = (
      put_above next path paths (nat_list_cmp_total.antisymm next path ∙ ap ordering_reverse is)
          rising.0,
      later,
    )

pub all_rising : (paths others : List (List ℕ)) → IsRising others
    → IsRising (with_paths paths others)
all_rising [] others rising = rising
all_rising (path ∷ paths) others rising = all_rising paths
    (insert_key (slice_cmp nat_cmp) others path) (put_rising path others rising)

some_below : (test : List ℕ → Bool) (path : List ℕ) (paths : List (List ℕ)) → IsBelow path paths
    → IsBelow path (filter test paths)
some_below test path [] below = tt
some_below test path (next ∷ paths) below = go (some_below test path paths below.1) (test next)
  where
    go : IsBelow path (filter test paths) → (b : Bool)
        → IsBelow path (cond b (next ∷ filter test paths) (filter test paths))
    go later true = (below.0, later)
    go later false = later

pub some_rising : (test : List ℕ → Bool) (paths : List (List ℕ)) → IsRising paths
    → IsRising (filter test paths)
some_rising test [] rising = tt
some_rising test (path ∷ paths) rising = go (some_rising test paths rising.1) (test path)
  where
    go : IsRising (filter test paths) → (b : Bool)
        → IsRising (cond b (path ∷ filter test paths) (filter test paths))
    go later true = (some_below test path paths rising.0, later)
    go later false = later

next : (paths : List (List ℕ)) (k : ℕ) (d : List ℕ) → IsRising paths → k + 1 < length paths
    → is_lt (slice_cmp nat_cmp (get_or paths (suc k) d) (get_or paths k d)) ≡ false
next [] k d rising within = absurd (omega arith)
next (p ∷ []) k d rising within = absurd (omega arith)
next (p ∷ q ∷ ps) zero d rising within = ap is_lt
    (nat_list_cmp_total.antisymm q p ∙ ap ordering_reverse rising.0.0)
next (p ∷ q ∷ ps) (suc k) d rising within = next (q ∷ ps) k d rising.1 (omega arith)

pub in_order : (paths : List (List ℕ)) → IsRising paths → IsSorted (slice_cmp nat_cmp) paths
in_order paths rising = λ k d low within. rw add-one (next paths k d rising within)
