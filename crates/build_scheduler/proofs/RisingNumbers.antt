-- Lists of numbers that rise: where a number stands, is put in and is taken out.
use Rattle.std.proofs.Common.{
  ◌≡◌,
  ℕ,
  zero,
  suc,
  ◌<◌,
  ◌≤◌,
  ◌==◌,
  inl,
  inr,
  ◌||◌,
  ◌&&◌,
  not,
  Bool,
  true,
  false,
  List,
  [],
  ◌∷◌,
  ◌++◌,
  length,
  get_or,
  Option,
  None,
  Some,
  Result,
  Ok,
  Err,
  refl,
  ap,
  sym,
  ◌∙◌,
  subst,
  arith,
  insert,
  remove,
}
use Rattle.std.specs.Prelude.{MatchResult, IfSome, option_copied, option_to_list, IsSome, ◌↔◌}
use denote.Ref.{Bor}
use Rattle.std.specs.List.Sorted.{IsBinarySearchResult}
use Rattle.std.specs.Ordering.{nat_cmp}
use Rattle.std.proofs.lemmas.Bool.{eqb-true, eq-eqb, cases_order}
use Rattle.std.proofs.lemmas.List.{length-append}
use Rattle.std.proofs.lemmas.List.Sorted.{searched}
use Rattle.build_scheduler.specs.Numbers.{among, AreAbove, AreRising, IsLeast, IsPopped}

above-at : (n : ℕ) (xs : List ℕ) → AreAbove n xs → (k : ℕ) → k < length xs → n < get_or xs k 0
above-at n [] h k l = absurd (omega arith)
above-at n (x ∷ xs) h zero l = h.0
above-at n (x ∷ xs) h (suc k) l = above-at n xs h.1 k (omega arith)

at-above : (n : ℕ) (xs : List ℕ) → ((k : ℕ) → k < length xs → n < get_or xs k 0) → AreAbove n xs
at-above n [] h = tt
at-above n (x ∷ xs) h = (h 0 (omega arith), at-above n xs (λ k l. h (suc k) (omega arith)))

rising-far : (xs : List ℕ) → AreRising xs → (i j : ℕ) → i ≤ j → j < length xs
    → get_or xs i 0 ≤ get_or xs j 0
rising-far [] h i j le l = absurd (omega arith)
rising-far (x ∷ xs) h zero zero le l = omega arith
rising-far (x ∷ xs) h zero (suc j) le l = let a : x
    < get_or xs j 0 = above-at x xs h.0 j (omega arith) in omega arith
rising-far (x ∷ xs) h (suc i) zero le l = absurd (omega arith)
rising-far (x ∷ xs) h (suc i) (suc j) le l = rising-far xs h.1 i j (omega arith) (omega arith)

-- where a search finds the number, or where it has its place
pub placed_at : (xs : List ℕ) (n : ℕ) (r : Result ℕ ℕ) → AreRising xs
    → IsBinarySearchResult (λ y. nat_cmp y n) xs r →
    MatchResult r (λ i. (i < length xs) × (get_or xs i 0 ≡ n))
    (λ i. (i ≤ length xs) × ((k : ℕ) → k < i → get_or xs k 0 < n)
    × ((k : ℕ) → i ≤ k → k < length xs → n < get_or xs k 0))
placed_at xs n r h f = searched xs n r f (rising-far xs h)

pub among-at : (xs : List ℕ) (n i : ℕ) → i < length xs → get_or xs i 0 ≡ n → among n xs ≡ true
among-at [] n i l e = absurd (omega arith)
among-at (x ∷ xs) n zero l e = ap (λ b. b || among n xs) (eq-eqb x n e)
among-at (x ∷ xs) n (suc i) l e = ap (λ b. (x == n) || b) (among-at xs n i (omega arith) e)
    ∙ or_true (x == n)
  where
    or_true : (b : Bool) → (b || true) ≡ true
    or_true true = refl
    or_true false = refl

-- a number that is among others stands somewhere
pub at-among : (xs : List ℕ) (n : ℕ) → among n xs ≡ true
    → (i : ℕ) × (i < length xs) × (get_or xs i 0 ≡ n)
at-among [] n h = absurd (cc)
at-among (x ∷ xs) n h = go (x == n) refl (at-among xs n)
  where
    go : (b : Bool) → (x == n) ≡ b
        → (among n xs ≡ true → (i : ℕ) × (i < length xs) × (get_or xs i 0 ≡ n))
        → (i : ℕ) × (i < suc (length xs)) × (get_or (x ∷ xs) i 0 ≡ n)
    go true e ih = (0, (omega arith), eqb-true x n e)
    go false e ih =
        let y = ih (sym (ap (λ b. b || among n xs) e) ∙ h)
        in (suc y.0, (let l : y.0 < length xs = y.1 in omega arith), y.2)

-- a number that no place of a rising list has is not among them
pub absent-between : (xs : List ℕ) (n i : ℕ) → ((k : ℕ) → k < i → get_or xs k 0 < n)
    → ((k : ℕ) → i ≤ k → k < length xs → n < get_or xs k 0) → among n xs ≡ true → ⊥
absent-between xs n i lo hi h =
    let y = at-among xs n h in
    let e : get_or xs y.0 0 ≡ n = y.2 in
    elim (cases_order y.0 i) [
      | inl t ↦ (let a : n < get_or xs y.0 0 = hi y.0 (omega arith) y.1 in omega arith)
      | inr r ↦ elim r [
        | inl t ↦ (let a : get_or xs y.0 0 < n = lo y.0 t in omega arith)
        | inr t ↦ (let a : n < get_or xs y.0 0 = hi y.0 (omega arith) y.1 in omega arith)
      ]
    ]

above-insert : (m : ℕ) (xs : List ℕ) (i n : ℕ) → AreAbove m xs → m < n → AreAbove m (insert xs i n)
above-insert m [] zero n h l = (l, tt)
above-insert m [] (suc i) n h l = (l, tt)
above-insert m (x ∷ xs) zero n h l = (l, h)
above-insert m (x ∷ xs) (suc i) n h l = (h.0, above-insert m xs i n h.1 l)

pub rising-insert : (xs : List ℕ) (i n : ℕ) → AreRising xs → ((k : ℕ) → k < i → get_or xs k 0 < n)
    → ((k : ℕ) → i ≤ k → k < length xs → n < get_or xs k 0) → i ≤ length xs
    → AreRising (insert xs i n)
rising-insert [] zero n h lo hi l = (tt, tt)
rising-insert [] (suc i) n h lo hi l = (tt, tt)
rising-insert (x ∷ xs) zero n h lo hi l = (at-above n (x ∷ xs) (λ k l. hi k (omega arith) l), h)
rising-insert (x ∷ xs) (suc i) n h lo hi l = (
  above-insert x xs i n h.0 (lo 0 (omega arith)),
  rising-insert xs i n h.1
      (λ k l. lo (suc k) (omega arith)) (λ k a b. hi (suc k) (omega arith) (omega arith))
      (omega arith),
)

above-remove : (m : ℕ) (xs : List ℕ) (i : ℕ) → AreAbove m xs → AreAbove m (remove xs i)
above-remove m [] zero h = tt
above-remove m [] (suc i) h = tt
above-remove m (x ∷ xs) zero h = h.1
above-remove m (x ∷ xs) (suc i) h = (h.0, above-remove m xs i h.1)

pub rising-remove : (xs : List ℕ) (i : ℕ) → AreRising xs → AreRising (remove xs i)
rising-remove [] zero h = tt
rising-remove [] (suc i) h = tt
rising-remove (x ∷ xs) zero h = h.1
rising-remove (x ∷ xs) (suc i) h = (above-remove x xs i h.0, rising-remove xs i h.1)

swap_or : (a b c : Bool) → (a || (b || c)) ≡ (b || (a || c))
swap_or true true c = refl
swap_or true false c = refl
swap_or false b c = refl

pub among-insert : (xs : List ℕ) (i n m : ℕ) → among m (insert xs i n) ≡ ((n == m) || among m xs)
among-insert [] zero n m = refl
among-insert [] (suc i) n m = refl
among-insert (x ∷ xs) zero n m = refl
among-insert (x ∷ xs) (suc i) n m = ap (λ b. (x == m) || b) (among-insert xs i n m)
    ∙ swap_or (x == m) (n == m) (among m xs)

not_among-above : (n : ℕ) (xs : List ℕ) → AreAbove n xs → among n xs ≡ false
not_among-above n [] h = refl
not_among-above n (x ∷ xs) h = go (x == n) refl (not_among-above n xs h.1)
  where
    go : (b : Bool) → (x == n) ≡ b → among n xs ≡ false → (b || among n xs) ≡ false
    go true e ih = absurd (let q : x ≡ n = eqb-true x n e in let l : n < x = h.0 in omega arith)
    go false e ih = ih

without_it : (a b : Bool) → (b ≡ true → a ≡ false) → a ≡ (not b && a)
without_it a true h = h refl
without_it a false h = refl

pub among-remove : (xs : List ℕ) (i n m : ℕ) → AreRising xs → i < length xs → get_or xs i 0 ≡ n
    → among m (remove xs i) ≡ (not (n == m) && among m xs)
among-remove [] i n m h l e = absurd (omega arith)
among-remove (x ∷ xs) zero n m h l e = go (n == m) refl
  where
    go : (b : Bool) → (n == m) ≡ b → among m xs ≡ (not b && ((x == m) || among m xs))
    go true q = let p : n ≡ m = eqb-true n m q in subst (λ k. among k xs ≡ false) (e ∙ p)
        (not_among-above x xs h.0)
    go false q = sym (ap (λ b. b || among m xs) (ap (λ k. k == m) e ∙ q))
among-remove (x ∷ xs) (suc i) n m h l e = go (x == m) (n == m) refl refl
    (among-remove xs i n m h.1 (omega arith) e)
  where
    below : x < n
    below = subst (λ k. x < k) e (above-at x xs h.0 i (omega arith))

    go : (a b : Bool) → (x == m) ≡ a → (n == m) ≡ b → among m (remove xs i) ≡ (not b && among m xs)
        → (a || among m (remove xs i)) ≡ (not b && (a || among m xs))
    go true true p q ih = absurd (let u : x ≡ m = eqb-true x m p in let v : n
        ≡ m = eqb-true n m q in let w : x < n = below in omega arith)
    go true false p q ih = refl
    go false b p q ih = ih

above-among : (n : ℕ) (xs : List ℕ) → AreAbove n xs → (m : ℕ) → among m xs ≡ true → n < m
above-among n xs h m a = let y = at-among xs m a in subst (λ k. n < k) y.2 (above-at n xs h y.0 y.1)

-- the first of them is the least
pub least-first : (xs : List ℕ) → AreRising xs → (n : ℕ) → among n xs ≡ true → (x : ℕ) (ys : List ℕ)
    → xs ≡ x ∷ ys → x ≤ n
least-first xs h n a x ys e = go (x == n) refl
  where
    r : AreRising (x ∷ ys)
    r = subst AreRising e h

    go : (b : Bool) → (x == n) ≡ b → x ≤ n
    go true q = let p : x ≡ n = eqb-true x n q in omega arith
    go false q =
        let rest : among n ys ≡ true = sym (ap (λ b. b || among n ys) q)
        ∙ (sym (ap (among n) e) ∙ a) in
        let l : x < n = above-among x ys r.0 n rest in omega arith

empty-among : (xs : List ℕ) → (0 < length xs → ⊥) → (n : ℕ) → among n xs ≡ false
empty-among [] h n = refl
empty-among (x ∷ xs) h n = absurd (h (omega arith))

least-head : (xs : List ℕ) (n : ℕ) → AreRising xs → 0 < length xs → n ≡ get_or xs 0 n
    → IsLeast xs (Some n)
least-head [] n h l e = absurd (omega arith)
least-head (x ∷ xs) n h l e = subst (λ k. IsLeast (x ∷ xs) (Some k)) (sym e)
    (ap (λ b. b || among x xs) (eq-eqb x x refl), λ m a. least-first (x ∷ xs) h m a x xs refl)

-- what stands first, or nothing
pub least-front : (xs : List ℕ) (o : Option (Bor ℕ)) → AreRising xs → (IsSome o ↔ (0 < length xs))
    → IfSome o (λ x. x.now ≡ get_or xs 0 x.now) → IsLeast xs (option_copied o)
least-front xs None h v e = λ n. empty-among xs (λ l. let q = v.1 l in absurd (cc)) n
least-front xs (Some x) h v e = least-head xs x.now h (v.0 refl) e

-- a number that a search found or did not find
pub found-among : (xs seen : List ℕ) (n i : ℕ) → seen ≡ xs → AreRising xs
    → IsBinarySearchResult (λ y. nat_cmp y n) seen (Ok i) → (i < length xs) × (get_or xs i 0 ≡ n)
found-among xs seen n i e h f = placed_at xs n (Ok i) h
    (subst (λ l. IsBinarySearchResult (λ y. nat_cmp y n) l (Ok i)) e f)

pub gap-at : (xs seen : List ℕ) (n i : ℕ) → seen ≡ xs → AreRising xs
    → IsBinarySearchResult (λ y. nat_cmp y n) seen (Err i) →
    (i ≤ length xs) × ((k : ℕ) → k < i → get_or xs k 0 < n)
    × ((k : ℕ) → i ≤ k → k < length xs → n < get_or xs k 0)
gap-at xs seen n i e h f = placed_at xs n (Err i) h
    (subst (λ l. IsBinarySearchResult (λ y. nat_cmp y n) l (Err i)) e f)

above-front : (n : ℕ) (xs ys : List ℕ) → AreAbove n (xs ++ ys) → AreAbove n xs
above-front n [] ys h = tt
above-front n (x ∷ xs) ys h = (h.0, above-front n xs ys h.1)

pub rising-front : (xs ys : List ℕ) → AreRising (xs ++ ys) → AreRising xs
rising-front [] ys h = tt
rising-front (x ∷ xs) ys h = (above-front x xs ys h.0, rising-front xs ys h.1)

pub shorter-front : (xs front more : List ℕ) → xs ≡ front ++ more → length front ≤ length xs
shorter-front xs front more e = let l = ap length e in let k = length-append front more in
    omega arith

among-last : (xs : List ℕ) (n m : ℕ) → AreRising (xs ++ n ∷ [])
    → among m xs ≡ (not (n == m) && among m (xs ++ n ∷ []))
among-last [] n m h = without_last (n == m)
  where
    without_last : (b : Bool) → false ≡ (not b && (b || false))
    without_last true = refl
    without_last false = refl
among-last (x ∷ xs) n m h = go (x == m) (n == m) refl refl (among-last xs n m h.1)
  where
    below : (ys : List ℕ) → AreAbove x (ys ++ n ∷ []) → x < n
    below [] h = h.0
    below (y ∷ ys) h = below ys h.1

    go : (a b : Bool) → (x == m) ≡ a → (n == m) ≡ b → among m xs ≡ (not b && among m (xs ++ n ∷ []))
        → (a || among m xs) ≡ (not b && (a || among m (xs ++ n ∷ [])))
    go true true p q ih = absurd (let u : x ≡ m = eqb-true x m p in let v : n
        ≡ m = eqb-true n m q in let l : x < n = below xs h.0 in omega arith)
    go true false p q ih = refl
    go false b p q ih = ih

among-end : (xs : List ℕ) (n : ℕ) → among n (xs ++ n ∷ []) ≡ true
among-end [] n = ap (λ b. b || false) (eq-eqb n n refl)
among-end (x ∷ xs) n = ap (λ b. (x == n) || b) (among-end xs n) ∙ last_true (x == n)
  where
    last_true : (b : Bool) → (b || true) ≡ true
    last_true true = refl
    last_true false = refl

nothing : (xs : List ℕ) → length xs ≡ 0 → xs ≡ []
nothing [] h = refl
nothing (x ∷ xs) h = absurd (omega arith)

-- what is taken off the end of a rising list
pub popped-is : (old new : List ℕ) (o : Option ℕ) → AreRising old → old ≡ new ++ option_to_list o
    → (IsSome o ↔ (0 < length old)) → IsPopped old new o
popped-is old new None h e v =
    let z : length old ≡ 0 = elim (cases_order (length old) 0) [
      | inl p ↦ p
      | inr r ↦ elim r [ inl l ↦ absurd (omega arith) | inr l ↦ absurd (let k = v.1 l in cc) ]
    ] in
    let s : length new ≤ length old = let k = ap length e in let m = length-append new [] in omega
    arith in
    (nothing old z, nothing new (omega arith))
popped-is old new (Some n) h e v =
    let r : AreRising (new ++ n ∷ []) = subst AreRising e h in (
      (let k : length old ≡ length (new ++ n ∷ []) = ap length e in let m = length-append new
          (n ∷ []) in omega arith),
      ap (among n) e ∙ among-end new n,
      λ m. among-last new n m r ∙ ap (λ xs. not (n == m) && among m xs) (sym e),
    )
