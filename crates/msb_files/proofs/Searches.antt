-- What a walk along paths in byte order finds below a folder.
use Rattle.std.proofs.Common.{
  ◌≡◌,
  ℕ,
  ◌+◌,
  ◌<◌,
  ◌≤◌,
  List,
  [],
  ◌∷◌,
  length,
  get_or,
  Bool,
  true,
  false,
  ◌&&◌,
  refl,
  sym,
  ap,
  ◌∙◌,
  subst,
  arith,
  inl,
  inr,
}
use Rattle.std.specs.List.{list_any}
use Rattle.std.specs.List.Sorted.{IsPartitionedBy, IsPartitionPoint}
use Rattle.std.specs.declared.cmp.Ordering.{Ordering}
use Rattle.std.specs.declared.cmp.Ordering.TheVariants.{Less, Equal, Greater}
use Rattle.std.specs.Ordering.{is_lt, ordering_reverse, ordering_then, nat_cmp, MatchOrdering}
use Rattle.std.specs.Cmp.{IsStrictWeakOrder}
use Rattle.std.specs.Cmp.Lexicographic.{slice_cmp}
use Rattle.std.proofs.lemmas.Bool.{eqb-true, eq-eqb, cases_lt}
use Rattle.std.proofs.lemmas.Cmp.{ranked, nat_cmp_total, nat_list_cmp_total, tied_itself}
use Rattle.std.proofs.lemmas.List.{get_or_default}
use Rattle.std.proofs.lemmas.List.Sorted.{ranks_by}
use Rattle.std.proofs.lemmas.List.Folds.{list_any_none, list_any_at}
use Rattle.file_store.specs.Files.{are_in_order}
use Rattle.file_store.specs.Paths.{is_before}
use Rattle.file_store.specs.declared.tree.File.{File}
use Rattle.file_store.proofs.Below.{begins}
use Rattle.file_store.proofs.Lookups.{below_or_not}
use Rattle.file_store.proofs.Order.{and_true, both_true, not_true, before_later}

-- ---- what has paths in byte order

-- no later path stands before an earlier one
abbrev pub Rises : {X : Type 0} → (X → List ℕ) → List X → Type 0
Rises {X} key xs = (i j : ℕ) (d : X) → i ≤ j → j < length xs →
    is_before (key (get_or xs j d)) (key (get_or xs i d)) ≡ false

not_both : (o : Ordering) → is_lt o ≡ true → is_lt (ordering_reverse o) ≡ false
not_both Less h = refl
not_both Equal h = cc
not_both Greater h = cc

not_back : (p q : List ℕ) → is_before p q ≡ true → is_before q p ≡ false
not_back p q h = ap is_lt (nat_list_cmp_total.antisymm q p) ∙ not_both (slice_cmp nat_cmp p q) h

not_itself : (p : List ℕ) → is_before p p ≡ false
not_itself p = ap is_lt (tied_itself nat_list_cmp_total p)

pub files_rise : (files : List File) → are_in_order files ≡ true → Rises (λ f. f.path) files
files_rise files up i j d h w = elim (cases_lt i j) [
  | inl b ↦ not_back (get_or files i d).path (get_or files j d).path
      (before_later files i j d up b w)
  | inr b ↦ (let e : i ≡ j = omega arith in
      subst (λ k. is_before (get_or files j d).path (get_or files k d).path ≡ false) (sym e)
      (not_itself (get_or files j d).path))
]

texts_rank : IsStrictWeakOrder is_before
texts_rank = ranks_by nat_list_cmp_total (λ p. p)

abbrev pub ahead : {X : Type 0} → (X → List ℕ) → List ℕ → X → Bool
ahead key front x = is_before (key x) front

pub parted : {X : Type 0} (key : X → List ℕ) (front : List ℕ) (xs : List X) → Rises key xs →
    IsPartitionedBy (ahead key front) xs
parted key front xs up i j d h w is =
    elim (is_before (key (get_or xs i d)) front) as
    (λ b. is_before (key (get_or xs i d)) front ≡ b → b ≡ true) [
      | true ↦ λ e. refl
      | false ↦ λ e. let f : is_before (key (get_or xs j d)) front ≡ false =
          texts_rank.chain _ (key (get_or xs i d)) front (up i j d h w) e in cc
    ] refl

-- the place that a search by halves has met
pub record IsMet {X : Type 0} (key : X → List ℕ) (front : List ℕ) (xs : List X) (first : ℕ) : Type 0
  where
    pub up : Rises key xs
    pub split : IsPartitionPoint (λ x. ahead key front x ≡ true) (λ x. ahead key front x ≡ false) xs
        first

-- ---- paths that begin with a front

-- neither is before the other, so that both begin alike
both_tie : (o m n : Ordering) → is_lt (ordering_then o m) ≡ false
    → is_lt (ordering_then (ordering_reverse o) n) ≡ false
    → (o ≡ Equal) × (is_lt m ≡ false) × (is_lt n ≡ false)
both_tie Less m n h g = cc
both_tie Equal m n h g = (refl, h, g)
both_tie Greater m n h g = cc

same_number : (x y : ℕ) → nat_cmp x y ≡ Equal → x ≡ y
same_number x y e = subst (λ o. MatchOrdering o (x < y) (x ≡ y) (y < x)) e
    (ranked x y (nat_cmp x y) refl)

-- what is not before a front, nor behind a text that begins with it, begins with it too
between : (front path later : List ℕ) → is_before path front ≡ false → is_before later path ≡ false
    → begins front later ≡ true → begins front path ≡ true
between [] path later h b s = refl
between (a ∷ front) [] later h b s = cc
between (a ∷ front) (x ∷ path) [] h b s = cc
between (a ∷ front) (x ∷ path) (y ∷ later) h b s =
    let both = and_true _ _ s in
    let same : y ≡ a = sym (eqb-true a y both.0) in
    let back : nat_cmp y x ≡ ordering_reverse (nat_cmp x a) = ap (λ z. nat_cmp z x) same
    ∙ nat_cmp_total.antisymm a x in
    let tie = both_tie (nat_cmp x a) (slice_cmp nat_cmp path front) (slice_cmp nat_cmp later path) h
    (ap (λ o. is_lt (ordering_then o (slice_cmp nat_cmp later path))) (sym back) ∙ b) in
    both_true _ _ (eq-eqb a x (sym (same_number x a tie.0)))
    (between front path later tie.1 tie.2 both.1)

-- what is before a front does not begin with it
ahead_not : (front path : List ℕ) → is_before path front ≡ true → begins front path ≡ false
ahead_not [] [] h = cc
ahead_not [] (x ∷ path) h = cc
ahead_not (a ∷ front) [] h = refl
ahead_not (a ∷ front) (x ∷ path) h = not_true (begins (a ∷ front) (x ∷ path)) (λ s.
    let both = and_true _ _ s in
    let tie : nat_cmp x a ≡ Equal = ap (λ b. nat_cmp b a) (sym (eqb-true a x both.0))
    ∙ tied_itself nat_cmp_total a in
    let rest : is_before path front ≡ true = ap
    (λ o. is_lt (ordering_then o (slice_cmp nat_cmp path front))) (sym tie) ∙ h in
    let no = ahead_not front path rest in cc)

-- ---- the walk from the place on

-- none of those before a place is one
abbrev pub NoneTo : {X : Type 0} → (X → Bool) → List X → ℕ → Type 0
NoneTo {X} test xs n = (k : ℕ) (d : X) → k < n → k < length xs → test (get_or xs k d) ≡ false

module _ {X : Type 0} (test : X → Bool) (xs : List X) (i : ℕ) where
  pub none_more : (x : X) → i < length xs → x ≡ get_or xs i x → test x ≡ false → NoneTo test xs i
      → NoneTo test xs (i + 1)
  none_more x within is fails none k d b w = elim (cases_lt k i) [
    | inl before ↦ none k d before w
    | inr later ↦ (let e : k ≡ i = omega arith in
        subst (λ n. test (get_or xs n d) ≡ false) (sym e)
        (ap test (get_or_default xs i d x within ∙ sym is) ∙ fails))
  ]

  pub one_there : (x : X) → i < length xs → x ≡ get_or xs i x → test x ≡ true
      → true ≡ list_any test xs
  one_there x within is holds = sym (list_any_at test xs i x within (ap test (sym is) ∙ holds))

  pub none_there : length xs ≤ i → NoneTo test xs i → false ≡ list_any test xs
  none_there past none = sym (list_any_none test xs (λ k d w. none k d (omega arith) w))

module _ {X : Type 0} (key : X → List ℕ) (front : List ℕ) (live : List ℕ → Bool) (xs : List X)
    (first : ℕ) (met : IsMet key front xs first) where
  abbrev is_one : X → Bool
  is_one x = begins front (key x) && live (key x)

  pub none_ahead : NoneTo is_one xs first
  none_ahead k d b w = ap (λ t. t && live (key (get_or xs k d)))
      (ahead_not front _ (met.split.0 k d (omega arith) b))

  -- behind one that doesn't begin with the front none does
  pub none_behind : (i : ℕ) (x : X) → first ≤ i → i < length xs → x ≡ get_or xs i x
      → begins front (key x) ≡ false → NoneTo is_one xs i → false ≡ list_any is_one xs
  none_behind i x from within is not none = sym
      (list_any_none is_one xs (λ k d w. elim (below_or_not k i) [
        | inl b ↦ none k d b w
        | inr b ↦ ap (λ t. t && live (key (get_or xs k d)))
            (not_true (begins front (key (get_or xs k d))) (λ s.
            let t = between front (key (get_or xs i d)) _ (met.split.1 i d from within)
            (met.up i k d b w) s in
            let n : begins front (key (get_or xs i d))
            ≡ false = ap (λ y. begins front (key y)) (get_or_default xs i d x within ∙ sym is)
            ∙ not in cc))
      ]))
