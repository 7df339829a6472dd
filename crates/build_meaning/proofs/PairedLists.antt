-- Two lists in step.
use Rattle.std.proofs.Common.{
  ◌≡◌,
  ℕ,
  zero,
  suc,
  List,
  [],
  ◌∷◌,
  ◌++◌,
  length,
  Option,
  Some,
  refl,
  ap,
  sym,
  subst,
}
use Rattle.msb_laws.specs.Traverse.{traverse}
use Rattle.build_meaning.specs.Lists.{Paired, at, put}
use Rattle.build_meaning.proofs.ListPlaces.{traverse-some}

module _ {X Y : Type 0} (S T : X → Y → Type 0) where
  pub Paired-mono : ((x : X) (y : Y) → S x y → T x y) → (xs : List X) (ys : List Y) → Paired S xs ys
      → Paired T xs ys
  Paired-mono m [] [] h = tt
  Paired-mono m (x ∷ xs) (y ∷ ys) h = (m x y h.0, Paired-mono m xs ys h.1)
  Paired-mono m [] (y ∷ ys) h = absurd h
  Paired-mono m (x ∷ xs) [] h = absurd h

  pub Paired-put : ((x : X) (y : Y) → S x y → T x y) → (x z : X) → ((y : Y) → S x y → T z y)
      → (xs : List X) (i : ℕ) (ys : List Y) → Paired S xs ys → at xs i ≡ Some x
      → Paired T (put xs i z) ys
  Paired-put m x z f [] i ys h e = absurd (cc)
  Paired-put m x z f (w ∷ xs) zero (y ∷ ys) h e = let q : w
      ≡ x = cc in (f y (subst (λ v. S v y) q h.0), Paired-mono m xs ys h.1)
  Paired-put m x z f (w ∷ xs) (suc i) (y ∷ ys) h e = (m w y h.0, Paired-put m x z f xs i ys h.1 e)
  Paired-put m x z f (w ∷ xs) i [] h e = absurd h

  pub Paired-put_at : ((x : X) (y : Y) → S x y → T x y) → (z : X) (y : Y) → T z y
      → (xs : List X) (i : ℕ) (ys : List Y) → Paired S xs ys → at ys i ≡ Some y
      → Paired T (put xs i z) ys
  Paired-put_at m z y f [] i [] h e = tt
  Paired-put_at m z y f (w ∷ xs) zero (v ∷ ys) h e = let q : v
      ≡ y = cc in (subst (λ a. T z a) (sym q) f, Paired-mono m xs ys h.1)
  Paired-put_at m z y f (w ∷ xs) (suc i) (v ∷ ys) h e =
      (m w v h.0, Paired-put_at m z y f xs i ys h.1 e)
  Paired-put_at m z y f [] i (v ∷ ys) h e = absurd h
  Paired-put_at m z y f (w ∷ xs) i [] h e = absurd h

  -- each by a function, at its own place
  pub Paired-traverse : (f : X → Option X) (xs zs : List X) (ys : List Y) → Paired S xs ys
      → traverse f xs ≡ Some zs →
      ((i : ℕ) (x z : X) (y : Y) → at xs i ≡ Some x → S x y → f x ≡ Some z → T z y) → Paired T zs ys
  Paired-traverse f [] zs [] h e m = let q : [] ≡ zs = cc in subst (λ us. Paired T us []) q tt
  Paired-traverse f (x ∷ xs) zs (y ∷ ys) h e m =
      let u = traverse-some f x xs zs e in
      subst (λ us. Paired T us (y ∷ ys)) (sym u.4)
      (m 0 x u.0 y refl h.0 u.2, Paired-traverse f xs u.1 ys h.1 u.3 (λ i. m (suc i)))
  Paired-traverse f [] zs (y ∷ ys) h e m = absurd h
  Paired-traverse f (x ∷ xs) zs [] h e m = absurd h

module _ {X Y : Type 0} (S : X → Y → Type 0) where
  pub Paired-append : (xs : List X) (ys : List Y) (us : List X) (vs : List Y) → Paired S xs ys
      → Paired S us vs → Paired S (xs ++ us) (ys ++ vs)
  Paired-append [] [] us vs h g = g
  Paired-append (x ∷ xs) (y ∷ ys) us vs h g = (h.0, Paired-append xs ys us vs h.1 g)
  Paired-append [] (y ∷ ys) us vs h g = absurd h
  Paired-append (x ∷ xs) [] us vs h g = absurd h

  pub Paired-length : (xs : List X) (ys : List Y) → Paired S xs ys → length xs ≡ length ys
  Paired-length [] [] h = refl
  Paired-length (x ∷ xs) (y ∷ ys) h = ap suc (Paired-length xs ys h.1)
  Paired-length [] (y ∷ ys) h = absurd h
  Paired-length (x ∷ xs) [] h = absurd h

  pub Paired-at : (xs : List X) (ys : List Y) (i : ℕ) (x : X) (y : Y) → Paired S xs ys
      → at xs i ≡ Some x → at ys i ≡ Some y → S x y
  Paired-at [] ys i x y h e g = absurd (cc)
  Paired-at (w ∷ xs) [] i x y h e g = absurd h
  Paired-at (w ∷ xs) (v ∷ ys) zero x y h e g = let p : w ≡ x = cc in let q : v
      ≡ y = cc in subst (λ a. S a y) p (subst (λ b. S w b) q h.0)
  Paired-at (w ∷ xs) (v ∷ ys) (suc i) x y h e g = Paired-at xs ys i x y h.1 e g

  pub Paired-some : (xs : List X) (ys : List Y) (i : ℕ) (x : X) → Paired S xs ys → at xs i ≡ Some x
      → (y : Y) × S x y × (at ys i ≡ Some y)
  Paired-some [] ys i x h e = absurd (cc)
  Paired-some (w ∷ xs) [] i x h e = absurd h
  Paired-some (w ∷ xs) (v ∷ ys) zero x h e = let p : w
      ≡ x = cc in (v, subst (λ a. S a v) p h.0, refl)
  Paired-some (w ∷ xs) (v ∷ ys) (suc i) x h e = Paired-some xs ys i x h.1 e
