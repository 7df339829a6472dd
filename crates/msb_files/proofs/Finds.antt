-- What is found first in a list, and what a sort by paths keeps of it.
use Rattle.std.proofs.Common.{
  ◌≡◌,
  ℕ,
  zero,
  suc,
  List,
  [],
  ◌∷◌,
  length,
  map,
  drop,
  Bool,
  true,
  false,
  not,
  ◌&&◌,
  Option,
  Some,
  None,
  option_map,
  cond,
  refl,
  ap,
  ◌∙◌,
  sym,
  arith,
}
use Rattle.std.specs.Cmp.Lexicographic.{slice_cmp}
use Rattle.std.specs.List.{All, find, filter}
use Rattle.std.specs.List.Sorted.{IsStableBy, ties}
use Rattle.std.specs.Ordering.{is_eq, is_lt, nat_cmp, ordering_reverse}
use Rattle.std.specs.Str.{bytes_eq}
use Rattle.std.specs.declared.cmp.Ordering.{Ordering}
use Rattle.std.specs.declared.cmp.Ordering.TheVariants.{Less, Equal, Greater}
use Rattle.std.proofs.lemmas.Cmp.{nat_list_cmp_total}
use Rattle.std.proofs.lemmas.List.Elements.{All-head, All-tail}
use Rattle.std.proofs.lemmas.Map.Text.{is_eq-slice_cmp}
use Rattle.std.proofs.lemmas.Slice.Eq.{bytes_eq-Decides}
use Rattle.file_store.specs.Paths.{is_before}
use Rattle.msb_files.specs.Places.{path_at, is_on}
use Rattle.msb_files.proofs.Searches.{NoneTo}
use Rattle.result_cache.specs.Journal.{Journal}

-- ---- lists

abbrev head_of : {X : Type 0} → List X → Option X
head_of [] = None
head_of (x ∷ xs) = Some x

module _ {X : Type 0} (p : X → Bool) where
  pub find_from : (xs : List X) (i : ℕ) → NoneTo p xs i → find p xs ≡ find p (drop i xs)
  find_from xs zero none = refl
  find_from [] (suc i) none = refl
  find_from (x ∷ xs) (suc i) none =
      ap (λ b. cond b (Some x) (find p xs)) (none 0 x (omega arith) (omega arith))
      ∙ find_from xs i (λ k d b w. none (suc k) d (omega arith) (omega arith))

  pub find_none : (xs : List X) → NoneTo p xs (length xs) → find p xs ≡ None
  find_none [] none = refl
  find_none (x ∷ xs) none =
      ap (λ b. cond b (Some x) (find p xs)) (none 0 x (omega arith) (omega arith))
      ∙ find_none xs (λ k d b w. none (suc k) d (omega arith) (omega arith))

  pub find_agree : (q : X → Bool) → ((x : X) → p x ≡ q x) → (xs : List X) → find p xs ≡ find q xs
  find_agree q same [] = refl
  find_agree q same (x ∷ xs) =
      ap (λ b. cond b (Some x) (find p xs)) (same x)
      ∙ ap (cond (q x) (Some x)) (find_agree q same xs)

  pub find_within : (q : X → Bool) (xs : List X) → All (λ x. p x ≡ q x) xs → find p xs ≡ find q xs
  find_within q [] same = refl
  find_within q (x ∷ xs) same =
      ap (λ b. cond b (Some x) (find p xs)) (All-head (λ y. p y ≡ q y) x xs same)
      ∙ ap (cond (q x) (Some x)) (find_within q xs (All-tail (λ y. p y ≡ q y) x xs same))

  pub find_mapped : {Y : Type 0} (f : Y → X) (ys : List Y) →
      find p (map f ys) ≡ option_map f (find (λ y. p (f y)) ys)
  find_mapped f [] = refl
  find_mapped f (y ∷ ys) = by (p (f y)) (find_mapped f ys)
    where
      by : (b : Bool) → find p (map f ys) ≡ option_map f (find (λ y. p (f y)) ys) →
          cond b (Some (f y)) (find p (map f ys))
          ≡ option_map f (cond b (Some y) (find (λ y. p (f y)) ys))
      by true rest = refl
      by false rest = rest

  find_holds : (xs : List X) (x : X) → find p xs ≡ Some x → p x ≡ true
  find_holds [] x is = absurd (cc)
  find_holds (y ∷ xs) x is = by (p y) refl (find_holds xs x) is
    where
      by : (b : Bool) → p y ≡ b → (find p xs ≡ Some x → p x ≡ true) →
          cond b (Some y) (find p xs) ≡ Some x → p x ≡ true
      by true holds rest here = let same : y ≡ x = cc in ap p (sym same) ∙ holds
      by false holds rest later = rest later

  find_filtered : (xs : List X) → find p xs ≡ head_of (filter p xs)
  find_filtered [] = refl
  find_filtered (x ∷ xs) = by (p x) (find_filtered xs)
    where
      by : (b : Bool) → find p xs ≡ head_of (filter p xs) →
          cond b (Some x) (find p xs) ≡ head_of (cond b (x ∷ filter p xs) (filter p xs))
      by true rest = refl
      by false rest = rest

-- ---- paths

same_tests : (s t : Bool) → (s ≡ true → t ≡ true) → (t ≡ true → s ≡ true) → s ≡ t
same_tests true t there back = sym (there refl)
same_tests false true there back = back refl
same_tests false false there back = refl

-- neither stands before the other where they are one
by_order : (o : Ordering) → (not (is_lt o) && not (is_lt (ordering_reverse o))) ≡ is_eq o
by_order Less = refl
by_order Equal = refl
by_order Greater = refl

no_order : (p q : List ℕ) → (not (is_before p q) && not (is_before q p)) ≡ bytes_eq p q
no_order p q = ap (λ o. not (is_before p q) && not (is_lt o)) (nat_list_cmp_total.antisymm q p)
    ∙ (by_order (slice_cmp nat_cmp p q) ∙ is_eq-slice_cmp p q)

pub tied : (p q : List ℕ) → is_before p q ≡ false → is_before q p ≡ false → bytes_eq p q ≡ true
tied p q front back = sym (no_order p q)
    ∙ (ap (λ b. not b && not (is_before q p)) front ∙ ap (λ b. not b) back)

flipped : (p q : List ℕ) → bytes_eq p q ≡ bytes_eq q p
flipped p q = same_tests (bytes_eq p q) (bytes_eq q p)
    (λ h. (bytes_eq-Decides q p).1 (sym ((bytes_eq-Decides p q).0 h)))
    (λ h. (bytes_eq-Decides p q).1 (sym ((bytes_eq-Decides q p).0 h)))

-- ---- a stable sort by path keeps the first on each path

module _ (entries : Journal) (path : List ℕ) where
  abbrev path_lt : ℕ → ℕ → Bool
  path_lt x y = is_before (path_at entries x) (path_at entries y)

  by_tie : (x : ℕ) → is_on entries path x ≡ true → (y : ℕ) → is_on entries path y ≡ ties path_lt x y
  by_tie x on y =
      let same : path_at entries x ≡ path = (bytes_eq-Decides (path_at entries x) path).0 on in
      flipped (path_at entries y) path ∙ (ap (λ p. bytes_eq p (path_at entries y)) (sym same)
      ∙ sym (no_order (path_at entries x) (path_at entries y)))

  module _ (before after : List ℕ) (stable : IsStableBy path_lt before after) where
    alike : (x : ℕ) → is_on entries path x ≡ true →
        find (is_on entries path) after ≡ find (is_on entries path) before
    alike x on =
        let tie = ties path_lt x in
        find_agree (is_on entries path) tie (by_tie x on) after
        ∙ (find_filtered tie after ∙ (ap head_of (stable x) ∙ (sym (find_filtered tie before)
        ∙ sym (find_agree (is_on entries path) tie (by_tie x on) before))))

    pub stays_first : find (is_on entries path) after ≡ find (is_on entries path) before
    stays_first = by (find (is_on entries path) before) refl (find (is_on entries path) after) refl
      where
        by : (b : Option ℕ) → find (is_on entries path) before ≡ b → (a : Option ℕ) →
            find (is_on entries path) after ≡ a →
            find (is_on entries path) after ≡ find (is_on entries path) before
        by (Some x) there a is = alike x (find_holds (is_on entries path) before x there)
        by None none (Some x) there = alike x (find_holds (is_on entries path) after x there)
        by None none None gone = gone ∙ sym none
