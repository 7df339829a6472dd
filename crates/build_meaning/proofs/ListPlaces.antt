-- Lists by place.
use Rattle.std.proofs.Common.{
  ◌≡◌,
  ℕ,
  zero,
  suc,
  ◌+◌,
  ◌<◌,
  ◌⊎◌,
  inl,
  inr,
  List,
  [],
  ◌∷◌,
  ◌++◌,
  length,
  map,
  Option,
  None,
  Some,
  refl,
  ap,
  sym,
  ◌∙◌,
  subst,
  arith,
}
use Rattle.std.specs.Prelude.{option_map, option_and_then}
use Rattle.msb_laws.specs.Traverse.{traverse}
use Rattle.result_cache.specs.Lists.{In}
use Rattle.build_meaning.specs.Lists.{at, put, numbered_from}

suc_inj : (m n : ℕ) → suc m ≡ suc n → m ≡ n
suc_inj m n h = cc

pub at-put : {X : Type 0} (xs : List X) (i : ℕ) (z : X) (k : ℕ) (q : X) → at (put xs i z) k ≡ Some q
    → ((k ≡ i) × (z ≡ q)) ⊎ ((k ≡ i → ⊥) × (at xs k ≡ Some q))
at-put [] i z k q h = absurd (cc)
at-put (x ∷ xs) zero z zero q h = inl (refl, let e : z ≡ q = cc in e)
at-put (x ∷ xs) zero z (suc k) q h = inr ((λ e. absurd (cc)), h)
at-put (x ∷ xs) (suc i) z zero q h = inr ((λ e. absurd (cc)), h)
at-put (x ∷ xs) (suc i) z (suc k) q h = elim (at-put xs i z k q h)
    [ inl p ↦ inl (ap suc p.0, p.1) | inr p ↦ inr ((λ e. p.0 (suc_inj k i e)), p.1) ]

pub at-put_same : {X : Type 0} (xs : List X) (i : ℕ) (x z : X) → at xs i ≡ Some x
    → at (put xs i z) i ≡ Some z
at-put_same [] i x z h = absurd (cc)
at-put_same (y ∷ xs) zero x z h = refl
at-put_same (y ∷ xs) (suc i) x z h = at-put_same xs i x z h

pub at-put_other : {X : Type 0} (xs : List X) (i : ℕ) (z : X) (k : ℕ) (q : X) → (k ≡ i → ⊥)
    → at xs k ≡ Some q → at (put xs i z) k ≡ Some q
at-put_other [] i z k q n h = absurd (cc)
at-put_other (x ∷ xs) zero z zero q n h = absurd (n refl)
at-put_other (x ∷ xs) zero z (suc k) q n h = h
at-put_other (x ∷ xs) (suc i) z zero q n h = h
at-put_other (x ∷ xs) (suc i) z (suc k) q n h = at-put_other xs i z k q (λ e. n (ap suc e)) h

pub at-map : {X Y : Type 0} (f : X → Y) (xs : List X) (k : ℕ) (q : Y) → at (map f xs) k ≡ Some q
    → (p : X) × (at xs k ≡ Some p) × (f p ≡ q)
at-map f [] k q h = absurd (cc)
at-map f (x ∷ xs) zero q h = (x, refl, let e : f x ≡ q = cc in e)
at-map f (x ∷ xs) (suc k) q h = at-map f xs k q h

pub at-append : {X : Type 0} (xs ys : List X) (k : ℕ) (q : X) → at (xs ++ ys) k ≡ Some q
    → (at xs k ≡ Some q) ⊎ ((i : ℕ) × (at ys i ≡ Some q) × (k ≡ length xs + i))
at-append [] ys k q h = inr (k, h, let e : k ≡ 0 + k = omega arith in e)
at-append (x ∷ xs) ys zero q h = inl h
at-append (x ∷ xs) ys (suc k) q h = elim (at-append xs ys k q h) [
  | inl p ↦ inl p
  | inr p ↦ inr (
    p.0,
    p.1,
    let e : suc k
        ≡ suc (length xs) + p.0 = more k (length xs) p.0 p.2 in e,
  )
]
  where
    more : (k n i : ℕ) → k ≡ n + i → suc k ≡ suc n + i
    more k n i h = omega arith

pub at-front : {X : Type 0} (xs ys : List X) (i : ℕ) (x : X) → at xs i ≡ Some x
    → at (xs ++ ys) i ≡ Some x
at-front [] ys i x h = absurd (cc)
at-front (w ∷ xs) ys zero x h = h
at-front (w ∷ xs) ys (suc i) x h = at-front xs ys i x h

pub at-length : {X : Type 0} (xs ys : List X) (x : X) → at (xs ++ x ∷ ys) (length xs) ≡ Some x
at-length [] ys x = refl
at-length (w ∷ xs) ys x = at-length xs ys x

pub at-in : {X : Type 0} (xs : List X) (i : ℕ) (x : X) → at xs i ≡ Some x → In x xs
at-in [] i x h = absurd (cc)
at-in (y ∷ xs) zero x h = inl (let e : y ≡ x = cc in e)
at-in (y ∷ xs) (suc i) x h = inr (at-in xs i x h)

pub numbered-length : {X : Type 0} (n : ℕ) (xs : List X) → length (numbered_from n xs) ≡ length xs
numbered-length n [] = refl
numbered-length n (x ∷ xs) = ap suc (numbered-length (suc n) xs)

-- a value of an option's own
pub traverse-some : {X Y : Type 0} (f : X → Option Y) (x : X) (xs : List X) (ys : List Y)
    → traverse f (x ∷ xs) ≡ Some ys →
    (y : Y) × (zs : List Y) × (f x ≡ Some y) × (traverse f xs ≡ Some zs) × (ys ≡ y ∷ zs)
traverse-some {Y = Y} f x xs ys h = go (f x) (traverse f xs) refl refl h
  where
    go : (o : Option Y) (p : Option (List Y)) → f x ≡ o → traverse f xs ≡ p
        → option_and_then (λ y. option_map (λ ys. y ∷ ys) p) o ≡ Some ys →
        (y : Y) × (zs : List Y) × (f x ≡ Some y) × (traverse f xs ≡ Some zs) × (ys ≡ y ∷ zs)
    go None p e g h = absurd (cc)
    go (Some y) None e g h = absurd (cc)
    go (Some y) (Some zs) e g h = (y, zs, e, g, let q : ys ≡ y ∷ zs = cc in q)

pub at-traverse : {X Y : Type 0} (f : X → Option Y) (xs : List X) (ys : List Y)
    → traverse f xs ≡ Some ys → (k : ℕ) (y : Y) → at ys k ≡ Some y
    → (x : X) × (at xs k ≡ Some x) × (f x ≡ Some y)
at-traverse {X = X} {Y = Y} f [] ys h k y e = let q : []
    ≡ ys = cc in absurd (nothing k y (subst (λ zs. at zs k ≡ Some y) (sym q) e))
  where
    nothing : (k : ℕ) (y : Y) → at [] k ≡ Some y → ⊥
    nothing k y h = cc
at-traverse {X = X} {Y = Y} f (x ∷ xs) ys h k y e = let u = traverse-some f x xs ys h in go u.0 u.1
    u.2 (at-traverse f xs u.1 u.3) k (subst (λ zs. at zs k ≡ Some y) u.4 e)
  where
    go : (z : Y) (zs : List Y) → f x ≡ Some z
        → ((k : ℕ) (y : Y) → at zs k ≡ Some y → (x : X) × (at xs k ≡ Some x) × (f x ≡ Some y)) →
        (k : ℕ) → at (z ∷ zs) k ≡ Some y → (p : X) × (at (x ∷ xs) k ≡ Some p) × (f p ≡ Some y)
    go z zs a ih zero e = (x, refl, a ∙ e)
    go z zs a ih (suc k) e = ih k y e

pub traverse-at : {X Y : Type 0} (f : X → Option Y) (xs : List X) (ys : List Y)
    → traverse f xs ≡ Some ys → (k : ℕ) (x : X) → at xs k ≡ Some x
    → (y : Y) × (at ys k ≡ Some y) × (f x ≡ Some y)
traverse-at {X = X} {Y = Y} f [] ys h k x e = absurd (cc)
traverse-at {X = X} {Y = Y} f (z ∷ xs) ys h k x e = let u = traverse-some f z xs ys h in go u.0 u.1
    u.2 (traverse-at f xs u.1 u.3) u.4 k e
  where
    go : (v : Y) (zs : List Y) → f z ≡ Some v
        → ((k : ℕ) (x : X) → at xs k ≡ Some x → (y : Y) × (at zs k ≡ Some y) × (f x ≡ Some y))
        → ys ≡ v ∷ zs →
        (k : ℕ) → at (z ∷ xs) k ≡ Some x → (y : Y) × (at ys k ≡ Some y) × (f x ≡ Some y)
    go v zs a ih c zero e = let q : z ≡ x = cc
        in (v, ap (λ us. at us 0) c, subst (λ t. f t ≡ Some v) q a)
    go v zs a ih c (suc k) e = let r = ih k x e in (r.0, ap (λ us. at us (suc k)) c ∙ r.1, r.2)

pub traverse-length : {X Y : Type 0} (f : X → Option Y) (xs : List X) (ys : List Y)
    → traverse f xs ≡ Some ys → length xs ≡ length ys
traverse-length f [] ys h = let q : [] ≡ ys = cc in ap length q
traverse-length f (x ∷ xs) ys h = let u = traverse-some f x xs ys h in ap suc
    (traverse-length f xs u.1 u.3) ∙ sym (ap length u.4)

pub at-put_else : {X : Type 0} (xs : List X) (i : ℕ) (z : X) (k : ℕ) → (k ≡ i → ⊥)
    → at (put xs i z) k ≡ at xs k
at-put_else [] i z k n = refl
at-put_else (x ∷ xs) zero z zero n = absurd (n refl)
at-put_else (x ∷ xs) zero z (suc k) n = refl
at-put_else (x ∷ xs) (suc i) z zero n = refl
at-put_else (x ∷ xs) (suc i) z (suc k) n = at-put_else xs i z k (λ e. n (ap suc e))

pub put-length : {X : Type 0} (xs : List X) (i : ℕ) (z : X) → length (put xs i z) ≡ length xs
put-length [] i z = refl
put-length (x ∷ xs) zero z = refl
put-length (x ∷ xs) (suc i) z = ap suc (put-length xs i z)

pub at-less : {X : Type 0} (xs : List X) (i : ℕ) (x : X) → at xs i ≡ Some x → i < length xs
at-less [] i x h = absurd (cc)
at-less (y ∷ xs) zero x h = let e : 0 < suc (length xs) = omega arith in e
at-less (y ∷ xs) (suc i) x h = more i (length xs) (at-less xs i x h)
  where
    more : (i n : ℕ) → i < n → suc i < suc n
    more i n h = omega arith

-- the entries behind
pub at-back : {X : Type 0} (xs ys : List X) (i : ℕ) → at (xs ++ ys) (length xs + i) ≡ at ys i
at-back [] ys i = ap (at ys) (let e : 0 + i ≡ i = omega arith in e)
at-back (x ∷ xs) ys i = ap (at (x ∷ (xs ++ ys)))
    (let e : suc (length xs) + i ≡ suc (length xs + i) = omega arith in e) ∙ at-back xs ys i

pub map-at : {X Y : Type 0} (f : X → Y) (xs : List X) (k : ℕ) (x : X) → at xs k ≡ Some x
    → at (map f xs) k ≡ Some (f x)
map-at f [] k x h = absurd (cc)
map-at f (y ∷ xs) zero x h = let e : y ≡ x = cc in ap (λ z. Some (f z)) e
map-at f (y ∷ xs) (suc k) x h = map-at f xs k x h

-- numbers from n on
pub in-numbered : {X : Type 0} (n : ℕ) (xs : List X) (m : ℕ) → In m (numbered_from n xs)
    → (i : ℕ) × (x : X) × (m ≡ n + i) × (at xs i ≡ Some x)
in-numbered n [] m h = absurd h
in-numbered n (x ∷ xs) m (inl p) = (0, x, sym p ∙ (let e : n ≡ n + 0 = omega arith in e), refl)
in-numbered n (x ∷ xs) m (inr h) = let y = in-numbered (suc n) xs m h
    in (suc y.0, y.1, y.2 ∙ (let e : suc n + y.0 ≡ n + suc y.0 = omega arith in e), y.3)

pub numbered-in : {X : Type 0} (n : ℕ) (xs : List X) (i : ℕ) (x : X) → at xs i ≡ Some x
    → In (n + i) (numbered_from n xs)
numbered-in n [] i x h = absurd (cc)
numbered-in n (y ∷ xs) zero x h = inl (let e : n ≡ n + 0 = omega arith in e)
numbered-in n (y ∷ xs) (suc i) x h = inr
    (subst (λ m. In m (numbered_from (suc n) xs)) (let e : suc n + i ≡ n + suc i = omega arith in e)
    (numbered-in (suc n) xs i x h))

pub traverse-none : {X Y : Type 0} (f : X → Option Y) (xs : List X) → traverse f xs ≡ None
    → (x : X) × In x xs × (f x ≡ None)
traverse-none f [] h = absurd (cc)
traverse-none {X = X} {Y = Y} f (x ∷ xs) h = go (f x) (traverse f xs) refl refl h
    (traverse-none f xs)
  where
    go : (o : Option Y) (p : Option (List Y)) → f x ≡ o → traverse f xs ≡ p
        → option_and_then (λ y. option_map (λ ys. y ∷ ys) p) o ≡ None
        → (traverse f xs ≡ None → (x : X) × In x xs × (f x ≡ None)) →
        (z : X) × In z (x ∷ xs) × (f z ≡ None)
    go None p e g h ih = (x, inl refl, e)
    go (Some y) None e g h ih = let z = ih g in (z.0, inr z.1, z.2)
    go (Some y) (Some zs) e g h ih = absurd (cc)

pub traverse-all : {X Y : Type 0} (f : X → Option Y) (xs : List X) (ys : List Y)
    → traverse f xs ≡ Some ys → (x : X) → In x xs → (y : Y) × (f x ≡ Some y) × In y ys
traverse-all f [] ys h x i = absurd i
traverse-all f (z ∷ xs) ys h x (inl p) = let u = traverse-some f z xs ys h
    in (u.0, subst (λ a. f a ≡ Some u.0) p u.2, subst (λ zs. In u.0 zs) (sym u.4) (inl refl))
traverse-all f (z ∷ xs) ys h x (inr i) = let u = traverse-some f z xs ys h in let v = traverse-all f
    xs u.1 u.3 x i in (v.0, v.1, subst (λ zs. In v.0 zs) (sym u.4) (inr v.2))

pub traverse-each : {X Y : Type 0} (f : X → Option Y) (xs : List X) (ys : List Y)
    → traverse f xs ≡ Some ys → (y : Y) → In y ys → (x : X) × In x xs × (f x ≡ Some y)
traverse-each f [] ys h y i = let q : [] ≡ ys = cc in absurd
    (nothing y (subst (λ zs. In y zs) (sym q) i))
  where
    nothing : {Y : Type 0} (y : Y) → In y [] → ⊥
    nothing y i = i
traverse-each {X = X} {Y = Y} f (x ∷ xs) ys h y i = let u = traverse-some f x xs ys h in go u.0 u.1
    u.2 (traverse-each f xs u.1 u.3 y) (subst (λ zs. In y zs) u.4 i)
  where
    go : (z : Y) (zs : List Y) → f x ≡ Some z → (In y zs → (p : X) × In p xs × (f p ≡ Some y))
        → In y (z ∷ zs) → (p : X) × In p (x ∷ xs) × (f p ≡ Some y)
    go z zs e ih (inl p) = (x, inl refl, e ∙ ap Some p)
    go z zs e ih (inr j) = let v = ih j in (v.0, inr v.1, v.2)

pub traverse-total : {X Y : Type 0} (f : X → Option Y) (xs : List X)
    → ((i : ℕ) (x : X) → at xs i ≡ Some x → (y : Y) × (f x ≡ Some y))
    → (ys : List Y) × (traverse f xs ≡ Some ys)
traverse-total f [] h = ([], refl)
traverse-total f (x ∷ xs) h =
    let y = h 0 x refl in
    let ys = traverse-total f xs (λ i. h (suc i)) in
    (y.0 ∷ ys.0, rw (y.1, ys.1))
