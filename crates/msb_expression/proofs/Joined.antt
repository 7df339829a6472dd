-- Texts that are the texts of several things.
use Rattle.std.proofs.Common.{
  ◌≡◌,
  ℕ,
  Bool,
  true,
  false,
  List,
  [],
  ◌∷◌,
  ◌++◌,
  refl,
  sym,
  ap,
  ◌∙◌,
  append_assoc,
}
use Rattle.std.specs.Prelude.{◌&&◌}
use Rattle.std.proofs.lemmas.List.{append-nil}
use Rattle.msb_expression.specs.Grammar.{Joins, Apart, Every}

-- one more at the end
pub append_some : {A : Type 0} (xs : List A) (x : A) → xs ++ x ∷ [] ≡ [] → ⊥
append_some [] x e = cc
append_some (y ∷ ys) x e = cc

pub Joins-more : {A : Type 0} (Is : List ℕ → A → Type 0) (text more : List ℕ) (xs : List A) (x : A)
    → Joins Is text xs → Is more x → Joins Is (text ++ more) (xs ++ x ∷ [])
Joins-more Is text more [] x h k = (
  more,
  [],
  ap (λ t. t ++ more) h
      ∙ sym (append-nil more),
  k,
  refl,
)
Joins-more Is text more (y ∷ ys) x h k = (
  h.0,
  h.1 ++ more,
  ap (λ t. t ++ more) h.2
      ∙ append_assoc h.0 h.1 more,
  h.3,
  Joins-more Is h.1 more ys x h.4 k,
)

pub false_and : (b : Bool) → (b && false) ≡ false
false_and true = refl
false_and false = refl

-- what fails the test may stand anywhere
pub Apart-more : {A : Type 0} (test : A → Bool) (xs : List A) (x : A) → test x ≡ false
    → Apart test xs → Apart test (xs ++ x ∷ [])
Apart-more test [] x e h = tt
Apart-more test (y ∷ []) x e h = (ap (λ b. test y && b) e ∙ false_and (test y), tt)
Apart-more test (y ∷ z ∷ zs) x e h = (h.0, Apart-more test (z ∷ zs) x e h.1)

-- anything may stand behind what fails the test
pub Apart-fresh : {A : Type 0} (test : A → Bool) (xs : List A) (x y : A) → test x ≡ false
    → Apart test xs → Apart test ((xs ++ x ∷ []) ++ y ∷ [])
Apart-fresh test [] x y e h = (ap (λ b. b && test y) e, tt)
Apart-fresh test (z ∷ []) x y e h = (
  ap (λ b. test z && b) e
      ∙ false_and (test z),
  (ap (λ b. b && test y) e, tt),
)
Apart-fresh test (z ∷ w ∷ ws) x y e h = (h.0, Apart-fresh test (w ∷ ws) x y e h.1)

pub Every-append : (test : ℕ → Bool) (xs ys : List ℕ) → Every test xs → Every test ys
    → Every test (xs ++ ys)
Every-append test [] ys h k = k
Every-append test (x ∷ xs) ys h k = (h.0, Every-append test xs ys h.1 k)
