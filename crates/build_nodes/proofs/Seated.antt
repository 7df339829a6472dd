-- A fact of all of some, and of one more; and their numbers.
use Rattle.std.proofs.Common.{
  ◌≡◌,
  ℕ,
  zero,
  suc,
  ◌<◌,
  List,
  [],
  ◌∷◌,
  ◌++◌,
  length,
  map,
  refl,
  slice_index_or,
  All,
  arith,
  ap,
  subst,
  sym,
  ◌∙◌,
  append_assoc,
}
use Rattle.std.proofs.lemmas.List.{append-nil, map-append}
use Rattle.build_nodes.specs.Seats.{numbers_below}

pub nothing-in : {X : Type 0} (xs : List X) (n : ℕ) → n ≡ length xs → n ≡ 0 → xs ≡ []
nothing-in [] n e z = refl
nothing-in (x ∷ xs) n e z = absurd (omega arith)

module _ {X : Type 0} (P : X → Type 0) where
  last : (xs : List X) (x : X) → All P (xs ++ x ∷ []) → P x
  last [] x h = h 0 x (omega arith)
  last (y ∷ ys) x h = last ys x (λ k d lt. h (suc k) d (omega arith))

  one : (x : X) → P x → (k : ℕ) (d : X) → k < length (x ∷ []) → P (slice_index_or (x ∷ []) k d)
  one x p zero d lt = p
  one x p (suc k) d lt = absurd (omega arith)

  more : (xs : List X) (x : X) → All P xs → P x → (k : ℕ) (d : X) → k < length (xs ++ x ∷ [])
      → P (slice_index_or (xs ++ x ∷ []) k d)
  more [] x h p k d lt = one x p k d lt
  more (y ∷ ys) x h p zero d lt = h 0 d (omega arith)
  more (y ∷ ys) x h p (suc k) d lt = more ys x (λ k d lt. h (suc k) d (omega arith)) p k d
      (omega arith)

  -- these are the front of some, and it is true of those behind them
  abbrev pub JoinedBehind : List X → List X → Type 0
  JoinedBehind all front = (behind : List X) × (all ≡ front ++ behind) × All P behind

  pub joined-all : (all front : List X) → JoinedBehind all front → front ≡ [] → All P all
  joined-all all front h none = subst (All P) (sym (h.1 ∙ ap (λ xs. xs ++ h.0) none)) h.2

  pub joined-none : (all : List X) → JoinedBehind all all
  joined-none all = ([], sym (append-nil all), λ k d lt. absurd (omega arith))

  ahead-of : (x : X) (xs : List X) → P x → All P xs → All P (x ∷ xs)
  ahead-of x xs p h zero d lt = p
  ahead-of x xs p h (suc k) d lt = h k d (omega arith)

  pub all-last : (all xs : List X) (x : X) → all ≡ xs ++ x ∷ [] → All P all → P x
  all-last all xs x e h = last xs x (subst (All P) e h)

  pub all-more : (all xs : List X) (x : X) → all ≡ xs ++ x ∷ [] → All P xs → P x → All P all
  all-more all xs x e h p = subst (All P) (sym e) (more xs x h p)

-- one more of them is behind, and what was true there is so again
pub joined-more : {X : Type 0} (P Q : X → Type 0) (all front now : List X) (x : X)
    → ((x : X) → P x → Q x) → front ≡ now ++ x ∷ [] → JoinedBehind P all front → Q x
    → JoinedBehind Q all now
joined-more P Q all front now x f e h q = (
  x ∷ h.0,
  h.1 ∙ (ap (λ xs. xs ++ h.0) e ∙ append_assoc now (x ∷ []) h.0),
  ahead-of Q x h.0 q (λ k d lt. f _ (h.2 k d lt)),
)

-- the numbers of some nodes, with those below them
module _ {N : Type 0} (number : N → ℕ) where
  pub numbers-more : (new old : List N) (n : N) (before after : ℕ) (all : List ℕ)
      → new ≡ old ++ n ∷ [] → number n ≡ after → before ≡ suc after
      → map number old ++ numbers_below before ≡ all → map number new ++ numbers_below after ≡ all
  numbers-more new old n before after all e is s h =
      ap (λ ns. map number ns ++ numbers_below after) e
      ∙ (ap (λ ns. ns ++ numbers_below after) (map-append number old (n ∷ []))
      ∙ (append_assoc (map number old) (number n ∷ []) (numbers_below after)
      ∙ (ap (λ m. map number old ++ m ∷ numbers_below after) is
      ∙ (ap (λ m. map number old ++ numbers_below m) (sym s) ∙ h))))

  pub numbers-all : (all : List N) (left : ℕ) (numbers : List ℕ)
      → map number all ++ numbers_below left ≡ numbers → left ≡ 0 → map number all ≡ numbers
  numbers-all all left numbers h none = sym (append-nil (map number all))
      ∙ (ap (λ n. map number all ++ numbers_below n) (sym none) ∙ h)

  pub numbers-pushed : (new old : List N) (n : N) (first : List ℕ) (last : ℕ) → new ≡ old ++ n ∷ []
      → map number old ≡ first → number n ≡ last → map number new ≡ first ++ last ∷ []
  numbers-pushed new old n first last e f l =
      ap (map number) e
      ∙ (map-append number old (n ∷ [])
      ∙ (ap (λ ns. ns ++ number n ∷ []) f ∙ ap (λ m. first ++ m ∷ []) l))
