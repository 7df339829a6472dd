-- In byte order, the paths that begin with a text stand together.
use Rattle.std.proofs.Common.{
  ◌≡◌,
  ℕ,
  zero,
  suc,
  ◌+◌,
  ◌<◌,
  ◌≤◌,
  List,
  [],
  ◌∷◌,
  ◌++◌,
  length,
  get_or,
  take,
  drop,
  map,
  filter,
  Bool,
  true,
  false,
  true≢false,
  cond,
  take-append-drop,
  eqb,
  refl,
  sym,
  ap,
  ◌∙◌,
  subst,
  arith,
  append-nil,
  IsSorted,
}
use Rattle.std.specs.Cmp.{IsStrictWeakOrder}
use Rattle.std.specs.Cmp.Lexicographic.{slice_cmp}
use Rattle.std.specs.List.{starts_with}
use Rattle.std.specs.List.Sorted.{IsPartitionedBy, IsPartitionPoint}
use Rattle.std.specs.Ordering.{is_lt, nat_cmp, ordering_then, MatchOrdering}
use Rattle.std.specs.declared.cmp.Ordering.{Ordering}
use Rattle.std.specs.declared.cmp.Ordering.TheVariants.{Less, Equal, Greater}
use Rattle.std.proofs.lemmas.Bool.{eqb-true, eq-eqb}
use Rattle.std.proofs.lemmas.Cmp.{ranked, nat_cmp_total, nat_list_cmp_total, tied_itself}
use Rattle.std.proofs.lemmas.List.{
  get_or-drop,
  get_or-map,
  length-map,
  length-drop,
  length-take,
  get_or-take,
}
use Rattle.std.proofs.lemmas.List.Elements.{filter-append}
use Rattle.std.proofs.lemmas.List.Kept.{IsSortedBy-filter}
use Rattle.std.proofs.lemmas.List.Sorted.{ranks_by, sorted_far, IsPermutation-refl}
use Rattle.msb_glob.specs.Expanded.{Expands, is_match, match_of}
use Rattle.msb_glob.specs.Front.{front_of}
use Rattle.msb_glob.specs.Parsed.{Reading}
use Rattle.msb_glob.specs.declared.expansion.Match.{Match}
use Rattle.msb_glob.proofs.Fronts.{both_true, not_below}

abbrev pub is_ahead : List ℕ → List ℕ → Bool
is_ahead front path = is_lt (slice_cmp nat_cmp path front)

abbrev pub begins_with : List ℕ → List ℕ → Bool
begins_with front path = starts_with eqb path front

byte_order : IsStrictWeakOrder (λ x y. is_lt (slice_cmp nat_cmp x y))
byte_order = ranks_by nat_list_cmp_total (λ x. x)

not_true : (b : Bool) → (b ≡ true → ⊥) → b ≡ false
not_true true h = absurd (h refl)
not_true false h = refl

not_false : (b : Bool) → (b ≡ false → ⊥) → b ≡ true
not_false true h = refl
not_false false h = absurd (h refl)

-- ---- a text among others

-- what begins with a text does not stand ahead of it
not_ahead : (front path : List ℕ) → begins_with front path ≡ true → is_ahead front path ≡ false
not_ahead [] [] h = refl
not_ahead [] (x ∷ path) h = refl
not_ahead (a ∷ front) [] h = cc
not_ahead (a ∷ front) (x ∷ path) h =
    let both = both_true _ _ h in
    let tied : nat_cmp x a ≡ Equal = ap (λ b. nat_cmp b a) (sym (eqb-true a x both.0))
    ∙ tied_itself nat_cmp_total a in
    ap (λ o. is_lt (ordering_then o (slice_cmp nat_cmp path front))) tied
    ∙ not_ahead front path both.1

ahead_not : (front path : List ℕ) → is_ahead front path ≡ true → begins_with front path ≡ false
ahead_not front path is = not_true (begins_with front path)
    (λ s. let n = not_ahead front path s in cc)

-- neither before nor behind is the same, and the rest decides
on_tie : (x a : ℕ) (o p : Ordering) (m n : Ordering) → nat_cmp x a ≡ o → nat_cmp a x ≡ p
    → is_lt (ordering_then o m) ≡ false → is_lt (ordering_then p n) ≡ false
    → (x ≡ a) × (is_lt m ≡ false) × (is_lt n ≡ false)
on_tie x a Less p m n e f h g = cc
on_tie x a Equal Less m n e f h g = cc
on_tie x a Equal Equal m n e f h g =
    (subst (λ o. MatchOrdering o (x < a) (x ≡ a) (a < x)) e (ranked x a (nat_cmp x a) refl), h, g)
on_tie x a Equal Greater m n e f h g =
    let up = subst (λ o. MatchOrdering o (x < a) (x ≡ a) (a < x)) e (ranked x a (nat_cmp x a) refl)
    in
    let down = subst (λ o. MatchOrdering o (a < x) (a ≡ x) (x < a)) f
    (ranked a x (nat_cmp a x) refl) in
    absurd (omega arith)
on_tie x a Greater Less m n e f h g = cc
on_tie x a Greater Equal m n e f h g =
    let up = subst (λ o. MatchOrdering o (x < a) (x ≡ a) (a < x)) e (ranked x a (nat_cmp x a) refl)
    in
    let down = subst (λ o. MatchOrdering o (a < x) (a ≡ x) (x < a)) f
    (ranked a x (nat_cmp a x) refl) in
    absurd (omega arith)
on_tie x a Greater Greater m n e f h g =
    let up = subst (λ o. MatchOrdering o (x < a) (x ≡ a) (a < x)) e (ranked x a (nat_cmp x a) refl)
    in
    let down = subst (λ o. MatchOrdering o (a < x) (a ≡ x) (x < a)) f
    (ranked a x (nat_cmp a x) refl) in
    absurd (omega arith)

-- from a text on, what stands no later than a path that begins with it begins with it too
between : (front path later : List ℕ) → is_ahead front path ≡ false → is_ahead path later ≡ false
    → begins_with front later ≡ true → begins_with front path ≡ true
between [] [] later h b s = refl
between [] (x ∷ path) later h b s = refl
between (a ∷ front) [] later h b s = cc
between (a ∷ front) (x ∷ path) [] h b s = cc
between (a ∷ front) (x ∷ path) (y ∷ later) h b s =
    let both = both_true _ _ s in
    let same : y ≡ a = sym (eqb-true a y both.0) in
    let tie = on_tie x a (nat_cmp x a) (nat_cmp a x) (slice_cmp nat_cmp path front)
    (slice_cmp nat_cmp later path) refl refl h
    (ap (λ z. is_lt (ordering_then (nat_cmp z x) (slice_cmp nat_cmp later path))) (sym same)
    ∙ b) in
    rw (eq-eqb a x (sym tie.0)) (between front path later tie.1 tie.2 both.1)

-- ---- entries in byte order of their paths

sorted_pair : {X : Type 0} (path : X → List ℕ) (entries : List X)
    → IsSorted (slice_cmp nat_cmp) (map path entries)
    → (i j : ℕ) (d : X) → i ≤ j → j < length entries
    → is_ahead (path (get_or entries i d)) (path (get_or entries j d)) ≡ false
sorted_pair path entries sorted i j d le within =
    let paths = map path entries in
    ap (is_ahead (path (get_or entries i d))) (sym (get_or-map path entries j d (path d) within))
    ∙ ap (λ y. is_ahead y (get_or paths j (path d)))
    (sym (get_or-map path entries i d (path d) (omega arith)))
    ∙ sorted_far (λ x y. is_lt (slice_cmp nat_cmp x y)) byte_order paths sorted i j (path d) le
    (omega (arith, length-map entries path))

-- those ahead of a text come first
pub ahead_parted : {X : Type 0} (path : X → List ℕ) (front : List ℕ) (entries : List X)
    → IsSorted (slice_cmp nat_cmp) (map path entries)
    → IsPartitionedBy (λ x. is_ahead front (path x)) entries
ahead_parted path front entries sorted i j d le within is =
    not_false _ (λ fails. true≢false (sym is
    ∙ byte_order.chain (path (get_or entries j d)) (path (get_or entries i d)) front
    (sorted_pair path entries sorted i j d le within) fails))

-- among those from the text on, so do those that begin with it
pub begins_parted : {X : Type 0} (path : X → List ℕ) (front : List ℕ) (entries rest : List X)
    (n : ℕ)
    → IsSorted (slice_cmp nat_cmp) (map path entries)
    → IsPartitionPoint (λ x. is_ahead front (path x) ≡ true) (λ x. is_ahead front (path x) ≡ false)
    entries n
    → rest ≡ drop n entries → IsPartitionedBy (λ x. begins_with front (path x)) rest
begins_parted path front entries rest n sorted split is i j d le within begun =
    let inside : n + j < length entries = omega (arith, ap length is, length-drop n entries) in
    let at_i : get_or rest i d ≡ get_or entries (n + i) d = ap (λ xs. get_or xs i d) is
    ∙ get_or-drop n entries i d in
    let at_j : get_or rest j d ≡ get_or entries (n + j) d = ap (λ xs. get_or xs j d) is
    ∙ get_or-drop n entries j d in
    ap (λ x. begins_with front (path x)) at_i
    ∙ between front (path (get_or entries (n + i) d)) (path (get_or entries (n + j) d))
    (split.1 (n + i) d (omega arith) (omega arith))
    (sorted_pair path entries sorted (n + i) (n + j) d (omega arith) inside)
    (ap (λ x. begins_with front (path x)) (sym at_j) ∙ begun)

-- ---- what a test keeps

kept_not : {X : Type 0} (b : Bool) (x : X) (xs : List X) → b ≡ false → cond b (x ∷ xs) xs ≡ xs
kept_not true x xs h = cc
kept_not false x xs h = refl

kept : {X : Type 0} (b : Bool) (x : X) (xs : List X) → b ≡ true → cond b (x ∷ xs) xs ≡ x ∷ xs
kept true x xs h = refl
kept false x xs h = cc

filter_none : {X : Type 0} (p : X → Bool) (xs : List X)
    → ((k : ℕ) (d : X) → k < length xs → p (get_or xs k d) ≡ false) → filter p xs ≡ []
filter_none p [] h = refl
filter_none p (x ∷ xs) h = kept_not (p x) x (filter p xs) (h zero x (omega arith))
    ∙ filter_none p xs (λ k d w. h (suc k) d (omega arith))

filter_every : {X : Type 0} (p : X → Bool) (xs : List X)
    → ((k : ℕ) (d : X) → k < length xs → p (get_or xs k d) ≡ true) → filter p xs ≡ xs
filter_every p [] h = refl
filter_every p (x ∷ xs) h = kept (p x) x (filter p xs) (h zero x (omega arith))
    ∙ ap (λ ys. x ∷ ys) (filter_every p xs (λ k d w. h (suc k) d (omega arith)))

map_kept : {X Y : Type 0} (f : X → Y) (b : Bool) (x : X) (xs : List X)
    → cond b (f x ∷ map f xs) (map f xs) ≡ map f (cond b (x ∷ xs) xs)
map_kept f true x xs = refl
map_kept f false x xs = refl

filter_map_is : {X Y : Type 0} (f : X → Y) (p : Y → Bool) (xs : List X)
    → filter p (map f xs) ≡ map f (filter (λ x. p (f x)) xs)
filter_map_is f p [] = refl
filter_map_is f p (x ∷ xs) = ap (λ ys. cond (p (f x)) (f x ∷ ys) ys) (filter_map_is f p xs)
    ∙ map_kept f (p (f x)) x (filter (λ y. p (f y)) xs)

-- a test of some of the entries, that no other passes, is one of all
within_kept : {X : Type 0} (p q : X → Bool) (x : X) (xs : List X) (b : Bool) → q x ≡ b
    → (b ≡ false → p x ≡ false) → filter p (cond b (x ∷ xs) xs)
    ≡ cond (p x) (x ∷ filter p xs) (filter p xs)
within_kept p q x xs true is fails = refl
within_kept p q x xs false is fails = sym (kept_not (p x) x (filter p xs) (fails refl))

filter_within : {X : Type 0} (p q : X → Bool) → ((x : X) → q x ≡ false → p x ≡ false)
    → (xs : List X) → filter p (filter q xs) ≡ filter p xs
filter_within p q fails [] = refl
filter_within p q fails (x ∷ xs) = within_kept p q x (filter q xs) (q x) refl (fails x)
    ∙ ap (λ ys. cond (p x) (x ∷ ys) ys) (filter_within p q fails xs)

filter_parts : {X : Type 0} (p : X → Bool) (xs : List X) (n : ℕ)
    → filter p xs ≡ filter p (take n xs) ++ filter p (drop n xs)
filter_parts p xs n = ap (filter p) (sym (take-append-drop n xs))
    ∙ filter-append p (take n xs) (drop n xs)

-- ---- the block

pub block_is : {X : Type 0} (path : X → List ℕ) (front : List ℕ) (entries rest : List X) (n e : ℕ)
    → IsPartitionPoint (λ x. is_ahead front (path x) ≡ true) (λ x. is_ahead front (path x) ≡ false)
    entries n
    → rest ≡ drop n entries
    → IsPartitionPoint (λ x. begins_with front (path x) ≡ true)
    (λ x. begins_with front (path x) ≡ false) rest e
    → map path (take e rest) ≡ filter (begins_with front) (map path entries)
block_is {X} path front entries rest n e split is inner =
    let q : X → Bool = λ x. begins_with front (path x) in
    let before = filter_none q (take n entries) (λ k d w.
    ap q (get_or-take n entries k d (omega (arith, length-take n entries)))
    ∙ ahead_not front (path (get_or entries k d))
    (split.0 k d (omega arith) (omega (arith, length-take n entries)))) in
    let among = filter_every q (take e rest) (λ k d w.
    ap q (get_or-take e rest k d (omega (arith, length-take e rest)))
    ∙ inner.0 k d (omega arith) (omega (arith, length-take e rest))) in
    let behind = filter_none q (drop e rest) (λ k d w.
    ap q (get_or-drop e rest k d) ∙ inner.1 (e + k) d (omega arith)
    (omega (arith, length-drop e rest))) in
    let all : filter q entries ≡ take e rest =
    filter_parts q entries n ∙ ap (λ xs. xs ++ filter q (drop n entries)) before
    ∙ ap (filter q) (sym is)
    ∙ filter_parts q rest e ∙ ap (λ xs. xs ++ filter q (drop e rest)) among
    ∙ ap (λ xs. take e rest ++ xs) behind
    ∙ append-nil (take e rest) in
    sym (filter_map_is path (begins_with front) entries ∙ ap (map path) all)

-- ---- the paths of a pattern, of those in the block

pub found_is : (pattern : Reading) (paths block found : List (List ℕ))
    → block ≡ filter (begins_with (front_of pattern.parts)) paths
    → found ≡ filter (is_match pattern) block
    → found ≡ filter (is_match pattern) paths
found_is pattern paths block found is kept_is =
    kept_is ∙ ap (filter (is_match pattern)) is
    ∙ filter_within (is_match pattern) (begins_with (front_of pattern.parts))
    (λ path other. sym (not_below pattern.parts path (sym other))) paths

-- what a pattern keeps of sorted paths is its answer
pub expands : (pattern : Reading) (paths found : List (List ℕ)) (matches : List Match)
    → IsSorted (slice_cmp nat_cmp) paths → found ≡ filter (is_match pattern) paths
    → matches ≡ map (match_of pattern) found → Expands pattern paths matches
expands pattern paths found matches sorted is are = record {
  found = filter (is_match pattern) paths;
  all_matching = IsPermutation-refl (filter (is_match pattern) paths);
  in_order = IsSortedBy-filter (λ x y. is_lt (slice_cmp nat_cmp x y)) byte_order (is_match pattern)
      paths sorted;
  matches_are = are ∙ ap (map (match_of pattern)) is;
}
