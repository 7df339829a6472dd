-- The number of a thing among others that are each there once: its first place, which stays as more
-- come.
use Rattle.std.proofs.Common.{
  ◌≡◌,
  ◌+◌,
  Bool,
  true,
  false,
  not,
  ◌||◌,
  List,
  [],
  ◌∷◌,
  ◌++◌,
  filter,
  refl,
  sym,
  ap,
  ◌∙◌,
  cond,
  if◌then◌else◌,
  true≢false,
}
use Rattle.std.specs.List.{list_any, position_or_len}
use Rattle.indexmap.specs.IndexSet.{insert_key, insert_all}
use Rattle.msb_batching.specs.Distinct.{distinct}

any_there : {X : Type 0} (p : X → Bool) (xs : List X) (y : X) → list_any p xs ≡ true
    → list_any p (xs ++ y ∷ []) ≡ true
any_there p [] y there = absurd (true≢false (sym there))
any_there p (x ∷ xs) y there = by (p x) there (any_there p xs y)
  where
    by : (b : Bool) → (b || list_any p xs) ≡ true
        → (list_any p xs ≡ true → list_any p (xs ++ y ∷ []) ≡ true)
        → (b || list_any p (xs ++ y ∷ [])) ≡ true
    by true h rest = refl
    by false h rest = rest h

any_last : {X : Type 0} (p : X → Bool) (xs : List X) (y : X) → p y ≡ true
    → list_any p (xs ++ y ∷ []) ≡ true
any_last p [] y h = ap (λ b. b || false) h
any_last p (x ∷ xs) y h = by (p x) (any_last p xs y h)
  where
    by : (b : Bool) → list_any p (xs ++ y ∷ []) ≡ true → (b || list_any p (xs ++ y ∷ [])) ≡ true
    by true rest = refl
    by false rest = rest

-- the place stays where it was found
place_stays : {X : Type 0} (p : X → Bool) (xs : List X) (y : X) → list_any p xs ≡ true
    → position_or_len p (xs ++ y ∷ []) ≡ position_or_len p xs
place_stays p [] y there = absurd (true≢false (sym there))
place_stays p (x ∷ xs) y there = by (p x) there (place_stays p xs y)
  where
    by : (b : Bool) → (b || list_any p xs) ≡ true
        → (list_any p xs ≡ true → position_or_len p (xs ++ y ∷ []) ≡ position_or_len p xs)
        → cond (not b) (1 + position_or_len p (xs ++ y ∷ [])) 0
        ≡ cond (not b) (1 + position_or_len p xs) 0
    by true h rest = refl
    by false h rest = ap (λ n. 1 + n) (rest h)

-- and is the next where it wasn't
place_next : {X : Type 0} (p : X → Bool) (xs : List X) (y : X) → p y ≡ true
    → position_or_len p (xs ++ y ∷ []) ≡ position_or_len p xs
place_next p [] y h = ap (λ b. cond (not b) (1 + 0) 0) h
place_next p (x ∷ xs) y h = ap (λ n. cond (not (p x)) (1 + n) 0) (place_next p xs y h)

module _ {X : Type 0} (same : X → X → Bool) (itself : (x : X) → same x x ≡ true) where
  place_put : (ks : List X) (t : X) → position_or_len (same t) (insert_key same ks t)
      ≡ position_or_len (same t) ks
  place_put ks t = by (list_any (same t) ks)
    where
      by : (b : Bool) → position_or_len (same t) (if b then ks else ks ++ t ∷ [])
          ≡ position_or_len (same t) ks
      by true = refl
      by false = place_next (same t) ks t (itself t)

  there_put : (ks : List X) (t : X) → list_any (same t) (insert_key same ks t) ≡ true
  there_put ks t = by (list_any (same t) ks) refl
    where
      by : (b : Bool) → list_any (same t) ks ≡ b
          → list_any (same t) (if b then ks else ks ++ t ∷ []) ≡ true
      by true e = e
      by false e = any_last (same t) ks t (itself t)

  there_more : (p : X → Bool) (ks : List X) (y : X) → list_any p ks ≡ true
      → list_any p (insert_key same ks y) ≡ true
  there_more p ks y there = by (list_any (same y) ks)
    where
      by : (b : Bool) → list_any p (if b then ks else ks ++ y ∷ []) ≡ true
      by true = there
      by false = any_there p ks y there

  place_more : (p : X → Bool) (ks : List X) (y : X) → list_any p ks ≡ true
      → position_or_len p (insert_key same ks y) ≡ position_or_len p ks
  place_more p ks y there = by (list_any (same y) ks)
    where
      by : (b : Bool) → position_or_len p (if b then ks else ks ++ y ∷ []) ≡ position_or_len p ks
      by true = refl
      by false = place_stays p ks y there

  place_all : (p : X → Bool) (ys ks : List X) → list_any p ks ≡ true
      → position_or_len p (insert_all same ks ys) ≡ position_or_len p ks
  place_all p [] ks there = refl
  place_all p (y ∷ ys) ks there = place_all p ys (insert_key same ks y) (there_more p ks y there)
      ∙ place_more p ks y there

  -- so it is the number among all
  pub number_stays : (ks : List X) (t : X) (more : List X)
      → position_or_len (same t) ks ≡ position_or_len (same t)
      (insert_all same (insert_key same ks t) more)
  number_stays ks t more = sym (place_all (same t) more (insert_key same ks t) (there_put ks t)
      ∙ place_put ks t)

-- each is there once
abbrev pub Apart : {X : Type 0} → (X → X → Bool) → List X → Type 0
Apart same [] = Unit {0}
Apart same (x ∷ xs) = (list_any (λ y. same y x) xs ≡ false) × Apart same xs

none_left : {X : Type 0} (p q : X → Bool) (xs : List X) → list_any q xs ≡ false
    → list_any q (filter p xs) ≡ false
none_left p q [] none = refl
none_left p q (x ∷ xs) none = by (p x) (q x) refl none (none_left p q xs)
  where
    by : (b e : Bool) → q x ≡ e → (e || list_any q xs) ≡ false
        → (list_any q xs ≡ false → list_any q (filter p xs) ≡ false)
        → list_any q (cond b (x ∷ filter p xs) (filter p xs)) ≡ false
    by b true at h rest = absurd (true≢false h)
    by true false at h rest = ap (λ t. t || list_any q (filter p xs)) at ∙ rest h
    by false false at h rest = rest h

none_passes : {X : Type 0} (q : X → Bool) (xs : List X)
    → list_any q (filter (λ y. not (q y)) xs) ≡ false
none_passes q [] = refl
none_passes q (x ∷ xs) = by (q x) refl (none_passes q xs)
  where
    by : (b : Bool) → q x ≡ b → list_any q (filter (λ y. not (q y)) xs) ≡ false
        → list_any q (cond (not b) (x ∷ filter (λ y. not (q y)) xs) (filter (λ y. not (q y)) xs))
        ≡ false
    by true at rest = rest
    by false at rest = ap (λ t. t || list_any q (filter (λ y. not (q y)) xs)) at ∙ rest

apart_left : {X : Type 0} (same : X → X → Bool) (p : X → Bool) (xs : List X) → Apart same xs
    → Apart same (filter p xs)
apart_left same p [] apart = tt
apart_left same p (x ∷ xs) apart = by (p x) (apart_left same p xs apart.1)
  where
    by : (b : Bool) → Apart same (filter p xs) → Apart same (cond b (x ∷ filter p xs) (filter p xs))
    by true rest = (none_left p (λ y. same y x) xs apart.0, rest)
    by false rest = rest

pub distinct-apart : {X : Type 0} (same : X → X → Bool) (xs : List X)
    → Apart same (distinct same xs)
distinct-apart same [] = tt
distinct-apart same (x ∷ xs) = (
  none_passes (λ y. same y x) (distinct same xs),
  apart_left same (λ y. not (same y x))
      (distinct same xs) (distinct-apart same xs),
)
