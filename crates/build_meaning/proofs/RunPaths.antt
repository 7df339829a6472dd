-- Ways along a relation of runs, and that a search of bounded length finds those round a circle.
use Rattle.std.proofs.Common.{
  ◌≡◌,
  ℕ,
  zero,
  suc,
  ◌<◌,
  ◌≤◌,
  Bool,
  true,
  false,
  ◌||◌,
  ◌⊎◌,
  inl,
  inr,
  List,
  [],
  ◌∷◌,
  length,
  refl,
  sym,
  ◌∙◌,
  subst,
  arith,
}
use Rattle.result_cache.specs.declared.run.RunId.{RunId}
use Rattle.result_cache.specs.Same.{same_run}
use Rattle.result_cache.specs.Lists.{In}
use Rattle.build_meaning.specs.Cycle.{any_leads, leads_to}
use Rattle.result_cache.proofs.RunTests.{
  clash,
  tells,
  or_left,
  or_right,
  same_run-true,
  same_run-eq,
}

pub data Path (N : RunId → RunId → Type 0) : RunId → RunId → Type 0 where
  last_one : {r t : RunId} → N r t → Path N r t
  step_on : {r t u : RunId} → N r t → Path N t u → Path N r u

pub path-mono : {N M : RunId → RunId → Type 0} → ((r t : RunId) → N r t → M r t) → {r t : RunId}
    → Path N r t → Path M r t
path-mono f (last_one {r = r} {t = t} n) = last_one (f r t n)
path-mono f (step_on {r = r} {t = t} n p) = step_on (f r t n) (path-mono f p)

pub path-join : {N : RunId → RunId → Type 0} {r t u : RunId} → Path N r t → Path N t u → Path N r u
path-join (last_one n) q = step_on n q
path-join (step_on n p) q = step_on n (path-join p q)

pub path-more : {N : RunId → RunId → Type 0} {r t u : RunId} → Path N r t → N t u → Path N r u
path-more p n = path-join p (last_one n)

-- a run with an edge into the end
pub path-last : {N : RunId → RunId → Type 0} {r t : RunId} → Path N r t → (u : RunId) × N u t
path-last (last_one {r = r} n) = (r, n)
path-last (step_on n p) = path-last p

-- some without one
abbrev pub keep_unless : Bool → RunId → List RunId → List RunId
keep_unless true r runs = runs
keep_unless false r runs = r ∷ runs

abbrev pub without : RunId → List RunId → List RunId
without r [] = []
without r (x ∷ runs) = keep_unless (same_run x r) x (without r runs)

within-without : (r t : RunId) (runs : List RunId) → In t runs → (t ≡ r → ⊥) → In t (without r runs)
within-without r t [] i n = absurd i
within-without r t (x ∷ runs) i n = go (same_run x r) refl i (λ j. within-without r t runs j n)
  where
    go : (b : Bool) → same_run x r ≡ b → In t (x ∷ runs) → (In t runs → In t (without r runs))
        → In t (keep_unless b x (without r runs))
    go true e (inl p) ih = absurd (n (sym p ∙ same_run-true x r e))
    go true e (inr j) ih = ih j
    go false e (inl p) ih = inl p
    go false e (inr j) ih = inr (ih j)

without-least : (r : RunId) (runs : List RunId) → length (without r runs) ≤ length runs
without-least r [] = omega arith
without-least r (x ∷ runs) = go (same_run x r) (without-least r runs)
  where
    go : (b : Bool) → length (without r runs) ≤ length runs
        → length (keep_unless b x (without r runs)) ≤ suc (length runs)
    go true h = omega arith
    go false h = omega arith

pub without-less : (r : RunId) (runs : List RunId) → In r runs
    → length (without r runs) < length runs
without-less r [] i = absurd i
without-less r (x ∷ runs) i = go (same_run x r) refl i (without-least r runs) (without-less r runs)
  where
    go : (b : Bool) → same_run x r ≡ b → In r (x ∷ runs) → length (without r runs) ≤ length runs
        → (In r runs → length (without r runs) < length runs)
        → length (keep_unless b x (without r runs)) < suc (length runs)
    go true e i h ih = omega arith
    go false e (inl p) h ih = absurd (clash (same_run x r) (same_run-eq x r p) e)
    go false e (inr j) h ih = less (ih j)
      where
        less : length (without r runs) < length runs
            → suc (length (without r runs)) < suc (length runs)
        less g = omega arith

pub in-without : (r t : RunId) (runs : List RunId) → In t runs → (t ≡ r → ⊥) → In t (without r runs)
in-without = within-without

-- a way whose inner runs are of these
pub data PathIn (N : RunId → RunId → Type 0) (inner : List RunId) : RunId → RunId → Type 0 where
  last_in : {r t : RunId} → N r t → PathIn N inner r t
  step_in : {r t u : RunId} → N r t → In t inner → PathIn N inner t u → PathIn N inner r u

path-in : {N : RunId → RunId → Type 0} (inner : List RunId) → ((r t : RunId) → N r t → In t inner)
    → {r t : RunId} → Path N r t → PathIn N inner r t
path-in inner f (last_one n) = last_in n
path-in inner f (step_on {r = r} {t = t} n p) = step_in n (f r t n) (path-in inner f p)

-- without a run, or else from it
from_it : {N : RunId → RunId → Type 0} (inner : List RunId) (x : RunId) {r t : RunId}
    → PathIn N inner r t → PathIn N (without x inner) r t ⊎ PathIn N (without x inner) x t
from_it inner x (last_in n) = inl (last_in n)
from_it {N} inner x (step_in {r = r} {t = t} {u = u} n i p) = elim (from_it inner x p) [
  | inr q ↦ inr q
  | inl q ↦ elim (tells (same_run t x)) [
    | inl e ↦ inr (subst (λ a. PathIn N (without x inner) a u) (same_run-true t x e) q)
    | inr e ↦ inl
        (step_in n (within-without x t inner i (λ h. clash (same_run t x) (same_run-eq t x h) e)) q)
  ]
]

again_from : {N : RunId → RunId → Type 0} (inner : List RunId) {r t : RunId} → PathIn N inner r t
    → PathIn N (without r inner) r t
again_from inner {r = r} p = elim (from_it inner r p) [ inl q ↦ q | inr q ↦ q ]

any-now : (leads : RunId → Bool) (last : RunId) (runs : List RunId) → In last runs
    → any_leads leads last runs ≡ true
any-now leads last [] i = absurd i
any-now leads last (x ∷ runs) (inl p) = or_left (same_run x last)
    (leads x || any_leads leads last runs) (same_run-eq x last p)
any-now leads last (x ∷ runs) (inr i) = or_right (same_run x last)
    (leads x || any_leads leads last runs)
    (or_right (leads x) (any_leads leads last runs) (any-now leads last runs i))

any-later : (leads : RunId → Bool) (last : RunId) (runs : List RunId) (t : RunId) → In t runs
    → leads t ≡ true → any_leads leads last runs ≡ true
any-later leads last [] t i h = absurd i
any-later leads last (x ∷ runs) t (inl p) h = or_right (same_run x last)
    (leads x || any_leads leads last runs)
    (or_left (leads x) (any_leads leads last runs) (subst (λ a. leads a ≡ true) (sym p) h))
any-later leads last (x ∷ runs) t (inr i) h = or_right (same_run x last)
    (leads x || any_leads leads last runs)
    (or_right (leads x) (any_leads leads last runs) (any-later leads last runs t i h))

module _ (next : RunId → List RunId) where
  abbrev pub Next : RunId → RunId → Type 0
  Next r t = In t (next r)

  found-in : (n : ℕ) (inner : List RunId) → length inner ≤ n → {r t : RunId} → PathIn Next inner r t
      → leads_to next (suc n) t r ≡ true
  found-in n inner h (last_in {r = r} {t = t} i) = any-now (leads_to next n t) t (next r) i
  found-in zero inner h (step_in {t = t} i j p) = let e : length (without t inner)
      < length inner = without-less t inner j in absurd
      (none (length (without t inner)) (length inner) e h)
    where
      none : (a b : ℕ) → a < b → b ≤ 0 → ⊥
      none a b h g = omega arith
  found-in (suc n) inner h (step_in {r = r} {t = t} {u = u} i j p) =
      let e : length (without t inner) < length inner = without-less t inner j in
      any-later (leads_to next (suc n) u) u (next r) t i
      (found-in n (without t inner) (smaller (length (without t inner)) (length inner) n e h)
      (again_from inner p))
    where
      smaller : (a b n : ℕ) → a < b → b ≤ suc n → a ≤ n
      smaller a b n h g = omega arith

  -- a way from a run to itself is found in as many steps as there are runs
  pub circle-found : (runs : List RunId) → ((r t : RunId) → Next r t → In t runs) → (r : RunId)
      → Path Next r r → leads_to next (length runs) r r ≡ true
  circle-found runs f r p =
      let l = path-last p in
      let i : In r runs = f l.0 r l.1 in
      go (length runs) refl (without-less r runs i) (again_from runs (path-in runs f p))
    where
      go : (n : ℕ) → length runs ≡ n → length (without r runs) < length runs
          → PathIn Next (without r runs) r r → leads_to next n r r ≡ true
      go zero e h q = absurd (none (length (without r runs)) (length runs) h e)
        where
          none : (a b : ℕ) → a < b → b ≡ 0 → ⊥
          none a b h g = omega arith
      go (suc n) e h q = found-in n (without r runs)
          (smaller (length (without r runs)) (length runs) n h e) q
        where
          smaller : (a b n : ℕ) → a < b → b ≡ suc n → a ≤ n
          smaller a b n h g = omega arith

-- where no run leads to itself, and each of some runs leads on to one of them, there is none
module _ (N : RunId → RunId → Type 0) (free : (r : RunId) → Path N r r → ⊥) (O : RunId → Type 0)
    (on : (r : RunId) → O r → (t : RunId) × N r t × O t) where
  no_end : (n : ℕ) (left : List RunId) → length left ≤ n → (r : RunId) → O r → In r left
      → ((v : RunId) → O v → In v left ⊎ Path N v r) → ⊥
  no_end zero left h r o i f = none (length (without r left)) (length left) (without-less r left i)
      h
    where
      none : (a b : ℕ) → a < b → b ≤ 0 → ⊥
      none a b h g = omega arith
  no_end (suc n) left h r o i f =
      let y = on r o in
      elim (f y.0 y.2) [
        | inr p ↦ free r (step_on y.1 p)
        | inl j ↦ elim (tells (same_run y.0 r)) [
          | inl e ↦ free r (last_one (subst (λ a. N r a) (same_run-true y.0 r e) y.1))
          | inr e ↦ no_end n (without r left)
              (smaller (length (without r left)) (length left) n (without-less r left i) h) y.0 y.2
              (within-without r y.0 left j (λ q. clash (same_run y.0 r) (same_run-eq y.0 r q) e))
              (λ v ov. elim (f v ov) [
                | inr p ↦ inr (path-more p y.1)
                | inl k ↦ elim (tells (same_run v r)) [
                  | inl q ↦ inr
                      (subst (λ a. Path N a y.0) (sym (same_run-true v r q)) (last_one y.1))
                  | inr q ↦ inl
                      (within-without r v left k (λ z. clash (same_run v r) (same_run-eq v r z) q))
                ]
              ])
        ]
      ]
    where
      smaller : (a b n : ℕ) → a < b → b ≤ suc n → a ≤ n
      smaller a b n h g = omega arith

  pub no_open : (runs : List RunId) → ((r : RunId) → O r → In r runs) → (r : RunId) → O r → ⊥
  no_open runs f r o = no_end (length runs) runs (same (length runs)) r o (f r o)
      (λ v ov. inl (f v ov))
    where
      same : (n : ℕ) → n ≤ n
      same n = omega arith
