-- The results of calls, as they come.
use Rattle.std.proofs.Common.{
  ◌≡◌,
  ◌≤◌,
  ◌<◌,
  ◌+◌,
  inl,
  inr,
  ℕ,
  zero,
  suc,
  List,
  [],
  ◌∷◌,
  length,
  map,
  Option,
  None,
  Some,
  refl,
  ap,
  sym,
  ◌∙◌,
  arith,
}
use Rattle.std.specs.Prelude.{option_map, option_and_then}
use Rattle.msb_laws.specs.Traverse.{traverse}
use Rattle.result_cache.specs.declared.request.RequestResult.{RequestResult}
use Rattle.result_cache.specs.Lists.{In}
use Rattle.build_meaning.specs.Lists.{at, put, Paired, numbered_from}
use Rattle.build_scheduler.specs.Slots.{AreSoFar}
use Rattle.build_scheduler.proofs.SlotsStay.{paired-puts}

-- one more result comes
pub one-told : (others : List (Option RequestResult)) (results : List RequestResult) (n i : ℕ)
    (told : RequestResult) → AreSoFar others results n → at others i ≡ Some None →
    (m : ℕ) × (n ≡ suc m) × AreSoFar (put others i (Some told)) (put results i told) m
one-told [] results n i told h e = absurd (cc)
one-told (Some t ∷ others) [] n i told h e = absurd h
one-told (Some t ∷ others) (r ∷ results) n zero told h e = absurd (cc)
one-told (Some t ∷ others) (r ∷ results) n (suc i) told h e = let y = one-told others results n i
    told h.1 e in (y.0, y.1, (h.0, y.2))
one-told (None ∷ others) [] zero i told h e = absurd h
one-told (None ∷ others) [] (suc n) i told h e = absurd h
one-told (None ∷ others) (r ∷ results) zero i told h e = absurd h
one-told (None ∷ others) (r ∷ results) (suc n) zero told h e = (n, refl, (refl, h))
one-told (None ∷ others) (r ∷ results) (suc n) (suc i) told h e = let y = one-told others results n
    i told h e in (suc y.0, ap suc y.1, y.2)

-- all results are there, or some are not
pub all-told : (f : ℕ → Option RequestResult) (ids : List ℕ) (results : List RequestResult)
    → AreSoFar (map f ids) results 0 → traverse f ids ≡ Some results
all-told f [] [] h = refl
all-told f [] (r ∷ results) h = absurd h
all-told f (id ∷ ids) results h = go (f id) results h (all-told f ids)
  where
    go : (o : Option RequestResult) (results : List RequestResult)
        → AreSoFar (o ∷ map f ids) results 0
        → ((rs : List RequestResult) → AreSoFar (map f ids) rs 0 → traverse f ids ≡ Some rs) →
        option_and_then (λ y. option_map (λ ys. y ∷ ys) (traverse f ids)) o ≡ Some results
    go None [] h ih = absurd h
    go None (r ∷ results) h ih = absurd h
    go (Some t) [] h ih = absurd h
    go (Some t) (r ∷ results) h ih = ap (option_map (λ ys. t ∷ ys)) (ih results h.1)
        ∙ ap (λ y. Some (y ∷ results)) (sym h.0)

pub some-open : (f : ℕ → Option RequestResult) (ids : List ℕ) (results : List RequestResult) (n : ℕ)
    → AreSoFar (map f ids) results (suc n) → traverse f ids ≡ None
some-open f [] [] n h = absurd (omega arith)
some-open f [] (r ∷ results) n h = absurd h
some-open f (id ∷ ids) results n h = go (f id) results h (some-open f ids)
  where
    go : (o : Option RequestResult) (results : List RequestResult)
        → AreSoFar (o ∷ map f ids) results (suc n)
        → ((rs : List RequestResult) (m : ℕ) → AreSoFar (map f ids) rs (suc m)
        → traverse f ids ≡ None) →
        option_and_then (λ y. option_map (λ ys. y ∷ ys) (traverse f ids)) o ≡ None
    go None results h ih = refl
    go (Some t) [] h ih = absurd h
    go (Some t) (r ∷ results) h ih = ap (option_map (λ ys. t ∷ ys)) (ih results n h.1)

pub told-length : (others : List (Option RequestResult)) (results : List RequestResult) (n : ℕ)
    → AreSoFar others results n → length results ≡ length others
told-length [] [] n h = refl
told-length [] (r ∷ results) n h = absurd h
told-length (Some t ∷ others) [] n h = absurd h
told-length (Some t ∷ others) (r ∷ results) n h = ap suc (told-length others results n h.1)
told-length (None ∷ others) [] zero h = absurd h
told-length (None ∷ others) [] (suc n) h = absurd h
told-length (None ∷ others) (r ∷ results) zero h = absurd h
told-length (None ∷ others) (r ∷ results) (suc n) h = ap suc (told-length others results n h)

pub map-alike-in : {X Y : Type 0} (f g : X → Y) (xs : List X) → ((x : X) → In x xs → f x ≡ g x)
    → map f xs ≡ map g xs
map-alike-in f g [] h = refl
map-alike-in f g (x ∷ xs) h = ap (λ y. y ∷ map f xs) (h x (inl refl))
    ∙ ap (λ ys. g x ∷ ys) (map-alike-in f g xs (λ y i. h y (inr i)))

-- numbers from one on
above-numbered : {X : Type 0} (n : ℕ) (xs : List X) (m : ℕ) → In m (numbered_from n xs) → n ≤ m
above-numbered n [] m h = absurd h
above-numbered n (x ∷ xs) m (inl e) = omega arith
above-numbered n (x ∷ xs) m (inr h) = let l : suc n
    ≤ m = above-numbered (suc n) xs m h in omega arith

-- a function of numbers that changes at one of them
pub map-numbered : {X Y : Type 0} (f g : ℕ → Y) (v : Y) (id : ℕ)
    → ((n : ℕ) → (n ≡ id → ⊥) → g n ≡ f n) → g id ≡ v → (first : ℕ) (xs : List X) (i : ℕ)
    → id ≡ first + i → i < length xs →
    map g (numbered_from first xs) ≡ put (map f (numbered_from first xs)) i v
map-numbered f g v id o h first [] i e l = absurd (omega arith)
map-numbered f g v id o h first (x ∷ xs) zero e l =
    let p : first ≡ id = omega arith in
    ap (λ y. y ∷ map g (numbered_from (suc first) xs)) (ap g p ∙ h)
    ∙ ap (λ ys. v ∷ ys)
    (map-alike-in g f (numbered_from (suc first) xs)
    (λ n m. let a : suc first ≤ n = above-numbered (suc first) xs n m in o n
    (λ q. absurd (omega arith))))
map-numbered f g v id o h first (x ∷ xs) (suc i) e l =
    ap (λ y. y ∷ map g (numbered_from (suc first) xs)) (o first (λ q. absurd (omega arith)))
    ∙ ap (λ ys. f first ∷ ys)
    (map-numbered f g v id o h (suc first) xs i (omega arith) (omega arith))

-- two places of lists in step change
pub paired-two : {X Y : Type 0} (S T : X → Y → Type 0) (xs : List X) (ys : List Y) (i j : ℕ)
    (x u : X) (y v : Y) → (i ≡ j → ⊥) →
    ((n : ℕ) (a : X) (b : Y) → (n ≡ i → ⊥) → (n ≡ j → ⊥) → at ys n ≡ Some b → S a b → T a b) → T x y
    → T u v → Paired S xs ys → Paired T (put (put xs i x) j u) (put (put ys i y) j v)
paired-two S T [] [] i j x u y v d m f g h = tt
paired-two S T [] (b ∷ ys) i j x u y v d m f g h = absurd h
paired-two S T (a ∷ xs) [] i j x u y v d m f g h = absurd h
paired-two S T (a ∷ xs) (b ∷ ys) zero zero x u y v d m f g h = absurd (d refl)
paired-two S T (a ∷ xs) (b ∷ ys) zero (suc j) x u y v d m f g h = (
  f,
  paired-puts S T xs ys j u v
      (λ n c e k. m (suc n) c e (λ q. absurd (omega arith)) (λ q. k (omega arith))) g h.1,
)
paired-two S T (a ∷ xs) (b ∷ ys) (suc i) zero x u y v d m f g h = (
  g,
  paired-puts S T xs ys i x y
      (λ n c e k. m (suc n) c e (λ q. k (omega arith)) (λ q. absurd (omega arith))) f h.1,
)
paired-two S T (a ∷ xs) (b ∷ ys) (suc i) (suc j) x u y v d m f g h = (
  m 0 a b (λ q. absurd (omega arith)) (λ q. absurd (omega arith)) refl h.0,
  paired-two S T xs ys i j x u y v (λ q. d (ap suc q))
      (λ n c e k l. m (suc n) c e (λ q. k (omega arith)) (λ q. l (omega arith))) f g h.1,
)

pub at-numbered : {X : Type 0} (n : ℕ) (xs : List X) (i : ℕ) → i < length xs
    → at (numbered_from n xs) i ≡ Some (n + i)
at-numbered n [] i l = absurd (omega arith)
at-numbered n (x ∷ xs) zero l = ap Some (omega arith)
at-numbered n (x ∷ xs) (suc i) l = at-numbered (suc n) xs i (omega arith) ∙ ap Some (omega arith)

pub traverse-alike : {X Y : Type 0} (f g : X → Option Y) (xs : List X) → ((x : X) → f x ≡ g x)
    → traverse f xs ≡ traverse g xs
traverse-alike f g [] h = refl
traverse-alike f g (x ∷ xs) h =
    ap (option_and_then (λ y. option_map (λ ys. y ∷ ys) (traverse f xs))) (h x)
    ∙ ap (λ (o : _). option_and_then (λ y. option_map (λ ys. y ∷ ys) o) (g x))
    (traverse-alike f g xs h)
