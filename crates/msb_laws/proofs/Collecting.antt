-- Loops that go on from one element to the next, up to the first fault.
use Rattle.std.proofs.Common.{
  ◌≡◌,
  ℕ,
  ◌+◌,
  ◌<◌,
  ◌≤◌,
  List,
  [],
  ◌∷◌,
  ◌++◌,
  length,
  drop,
  get_or,
  Result,
  Ok,
  Err,
  refl,
  sym,
  ap,
  ◌∙◌,
  append_assoc,
  append-nil,
  add-one,
  drop-cons,
  arith,
}
use Rattle.std.proofs.lemmas.Grind.{common_steps}
use Rattle.msb_laws.specs.Results.{map_ok, all_ok, fold_ok}

past : {X : Type 0} (xs : List X) (i : ℕ) → length xs ≤ i → drop i xs ≡ []
past xs i h = grind (arith, common_steps)

longer : {X E : Type 0} (front : List X) (x : X) (r : Result (List X) E)
    → map_ok (λ xs. front ++ xs) (map_ok (λ xs. x ∷ xs) r)
    ≡ map_ok (λ xs. (front ++ x ∷ []) ++ xs) r
longer front x (Ok xs) = ap Ok (sym (append_assoc front (x ∷ []) xs))
longer front x (Err e) = refl

-- so far the loop has `front`, and `all` is the answer of the whole list
pub record IsOk {A B E : Type 0} (f : A → Result B E) (xs : List A) (i : ℕ) (front : List B)
    (all : Result (List B) E) : Type 0 where
  pub is : all ≡ map_ok (λ ys. front ++ ys) (all_ok f (drop i xs))

pub ok_stop : {A B E : Type 0} (f : A → Result B E) (xs : List A) (i : ℕ) (x : A) (front : List B)
    (all : Result (List B) E) (e : E) → IsOk f xs i front all → i < length xs → x ≡ get_or xs i x
    → f x ≡ Err e → all ≡ Err e
ok_stop f xs i x front all e inv h is fails = inv.is ∙ rw (drop-cons xs i x, ← is, fails) refl

pub ok_step : {A B E : Type 0} (f : A → Result B E) (xs : List A) (i : ℕ) (x : A) (y : B)
    (front : List B) (all : Result (List B) E) → IsOk f xs i front all → i < length xs
    → x ≡ get_or xs i x → f x ≡ Ok y → IsOk f xs (i + 1) (front ++ y ∷ []) all
ok_step f xs i x y front all inv h is gives = record
    { is = inv.is ∙ rw (add-one, drop-cons xs i x, ← is, gives) (longer front y _) }

pub ok_end : {A B E : Type 0} (f : A → Result B E) (xs : List A) (i : ℕ) (front : List B)
    (all : Result (List B) E) → IsOk f xs i front all → length xs ≤ i → all ≡ Ok front
ok_end f xs i front all inv h = inv.is ∙ rw (past xs i h) (ap Ok (append-nil front))

-- a step after another: so far the loop is at s, and `all` is where the whole list leads
pub record IsFolded {S X E : Type 0} (step : S → X → Result S E) (xs : List X) (i : ℕ) (s : S)
    (all : Result S E) : Type 0 where
  pub is : all ≡ fold_ok step s (drop i xs)

pub fold_stop : {S X E : Type 0} (step : S → X → Result S E) (xs : List X) (i : ℕ) (x : X) (s : S)
    (all : Result S E) (e : E) → IsFolded step xs i s all → i < length xs → x ≡ get_or xs i x
    → step s x ≡ Err e → all ≡ Err e
fold_stop step xs i x s all e inv h is fails = inv.is ∙ rw (drop-cons xs i x, ← is, fails) refl

pub fold_step : {S X E : Type 0} (step : S → X → Result S E) (xs : List X) (i : ℕ) (x : X)
    (s next : S) (all : Result S E) → IsFolded step xs i s all → i < length xs → x ≡ get_or xs i x
    → step s x ≡ Ok next → IsFolded step xs (i + 1) next all
fold_step step xs i x s next all inv h is gives = record
    { is = inv.is ∙ rw (add-one, drop-cons xs i x, ← is, gives) refl }

pub fold_end : {S X E : Type 0} (step : S → X → Result S E) (xs : List X) (i : ℕ) (s : S)
    (all : Result S E) → IsFolded step xs i s all → length xs ≤ i → all ≡ Ok s
fold_end step xs i s all inv h = inv.is ∙ rw (past xs i h) refl
